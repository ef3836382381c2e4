-- Reading the items of a list, one by one.
use Rattle.std.proofs.Common.{◌≡◌, ℕ, zero, suc, ◌<◌, Bool, true, false, List, [], ◌∷◌, ◌++◌, length, Option, Some, None, Ok, Err, refl, sym, ap, subst, ◌∙◌, if◌then◌else◌, arith}
use Rattle.fst_base.specs.Sorts.{Srt}
use Rattle.fst_base.specs.Values.{Val, v_nil, v_cons, chain}
use Rattle.fst_base.specs.declared.value.Value.{Value}
use Rattle.fst_values.specs.declared.fault.ValueFault.TheVariants.{NotAValue, NoMemory, NumberTooWide}
use Rattle.fst_values.specs.declared.fault.ValueFault.{ValueFault}
use Rattle.fst_values.specs.Texts.{close_square, semicolon}
use Rattle.fst_values.specs.Reading.{◌>>=◌, starts, after_mark, expected, Found, within, items, reads, Part, Parts, Gives, Expects}
use Rattle.fst_values.proofs.SoundLemmas.{sound}
use Rattle.fst_values.proofs.LengthLemmas.{text-le, expected-shorter}
use Rattle.fst_values.proofs.StepLemmas.{goes, goes_none, chooses, passes}

-- what is found, with these values before it
pub prepended : List Val → Found → Found
prepended [] o = o
prepended (w ∷ ws) o = within (v_cons w) (prepended ws o)

-- the items so far, read from the start up to here; the rest is read as at the start
pub record SoFar (S : Srt) (start here : List ℕ) (got : Option (List Value)) : Type 0 where
  pub values : List Val
  pub most : ℕ
  pub parts : Parts values got
  pub found : items (reads S) (suc (length start)) start ≡ prepended values (items (reads S) most here)
  pub room : length here < most

pub at_start : (S : Srt) (start : List ℕ) → SoFar S start start (Some [])
unfolding prepended
at_start S start = record { values = []; most = suc (length start); parts = (refl, tt); found = refl; room = omega arith }

prepended-none : (ws : List Val) → prepended ws None ≡ None
unfolding prepended
prepended-none [] = refl
prepended-none (w ∷ ws) = ap (within (v_cons w)) (prepended-none ws)

prepended-last : (ws : List Val) (w : Val) (to : List ℕ) → prepended ws (Some (v_cons w v_nil, to)) ≡ Some (chain (ws ++ w ∷ []), to)
unfolding prepended
prepended-last [] w to = refl
prepended-last (v ∷ ws) w to = ap (within (v_cons v)) (prepended-last ws w to)

prepended-push : (ws : List Val) (w : Val) (o : Found) → prepended ws (within (v_cons w) o) ≡ prepended (ws ++ w ∷ []) o
unfolding prepended
prepended-push [] w o = refl
prepended-push (v ∷ ws) w o = ap (within (v_cons v)) (prepended-push ws w o)

no_item : (S : Srt) (most : ℕ) (here : List ℕ) → reads S here ≡ None → items (reads S) most here ≡ None
no_item S zero here e = refl
no_item S (suc most) here e = goes_none (reads S here) _ e

-- no item where one has to be
pub no_part : (S : Srt) (start here : List ℕ) (got : Option (List Value)) → SoFar S start here got → reads S here ≡ None
    → items (reads S) (suc (length start)) start ≡ None
no_part S start here got h e = h.found ∙ ap (prepended h.values) (no_item S h.most here e) ∙ prepended-none h.values

-- a fault at an item is a fault at the list
pub fault_at_item : (S : Srt) (start here to : List ℕ) (got : Option (List Value)) (fault : ValueFault) → SoFar S start here got
    → Gives (reads S here) (Err fault) to → Gives (items (reads S) (suc (length start)) start) (Err fault) to
fault_at_item S start here to got NotAValue h e = no_part S start here got h e
fault_at_item S start here to got NoMemory h e = tt
fault_at_item S start here to got NumberTooWide h e = absurd e

pub no_items : (S : Srt) (start : List ℕ) (got : List Value) → got ≡ [] → SoFar S start start (Some got)
no_items S start got e = subst (λ g. SoFar S start start (Some g)) (sym e) (at_start S start)

module _ (S : Srt) (start here k : List ℕ) (got got' : Option (List Value)) (part : Option Value)
    (h : SoFar S start here got) (g : Gives (reads S here) (Ok part) k)
    (push : (ws : List Val) (w : Val) → Parts ws got → Part w part → Parts (ws ++ w ∷ []) got') where
  at_item : (most : ℕ) → h.most ≡ suc most → items (reads S) (suc (length start)) start
      ≡ prepended h.values (if starts close_square k then Some (v_cons g.0 v_nil, after_mark close_square k)
      else expected semicolon k >>= λ m. within (v_cons g.0) (items (reads S) most m))
  at_item most e = h.found ∙ ap (prepended h.values) (ap (λ n. items (reads S) n here) e ∙ goes (reads S here) _ (g.0, k) g.1.0)

  -- there is room for this item
  room : (most : ℕ) → h.most ≡ most → (n : ℕ) × (h.most ≡ suc n)
  room zero e = absurd (omega (arith, h.room))
  room (suc n) e = (n, e)

  -- the list ends behind the item
  pub ended : (to : List ℕ) (t : Bool) (r : Option Value) → t ≡ starts close_square k → t ≡ true → to ≡ after_mark close_square k
      → ((ws : List Val) → Parts ws got' → Part (chain ws) r) → Gives (items (reads S) (suc (length start)) start) (Ok r) to
  ended to t r f i e make =
      let s : starts close_square k ≡ true = sym f ∙ i in
      let n = room h.most refl in (
        chain (h.values ++ g.0 ∷ []),
        (
          at_item n.0 n.1 ∙ ap (prepended h.values) (chooses (starts close_square k) _ _ s ∙ ap (λ t. Some (v_cons g.0 v_nil, t)) (sym e)) ∙ prepended-last h.values g.0 to,
          make (h.values ++ g.0 ∷ []) (push h.values g.0 h.parts g.1.1),
        ),
      )

  -- neither an end nor a next item
  pub no_mark : starts close_square k ≡ false → expected semicolon k ≡ None → items (reads S) (suc (length start)) start ≡ None
  no_mark s e =
      let n = room h.most refl in
      at_item n.0 n.1 ∙ ap (prepended h.values) (passes (starts close_square k) _ _ s ∙ goes_none (expected semicolon k) _ e) ∙ prepended-none h.values

  pub fault_at_mark : (from to : List ℕ) (t : Bool) (fault : ValueFault) → t ≡ starts close_square k → t ≡ false → from ≡ after_mark close_square k
      → Expects (expected semicolon from) (Err fault) to → Gives (items (reads S) (suc (length start)) start) (Err fault) to
  fault_at_mark from to t NotAValue e f i x =
      let s : starts close_square k ≡ false = sym e ∙ f in
      no_mark s (ap (expected semicolon) (sym (i ∙ passes (starts close_square k) _ k s)) ∙ x)
  fault_at_mark from to t NoMemory e f i x = absurd x
  fault_at_mark from to t NumberTooWide e f i x = absurd x

  -- a next item
  next_found : (m : List ℕ) → starts close_square k ≡ false → expected semicolon k ≡ Some m → SoFar S start m got'
  next_found m s e =
      let n = room h.most refl in
      let le = text-le S g.0 here k (sound S here g.0 k g.1.0) in
      let lt = expected-shorter semicolon k m e in
      record {
        values = h.values ++ g.0 ∷ [];
        most = n.0;
        parts = push h.values g.0 h.parts g.1.1;
        found = at_item n.0 n.1 ∙ ap (prepended h.values) (passes (starts close_square k) _ _ s ∙ goes (expected semicolon k) _ m e) ∙ prepended-push h.values g.0 (items (reads S) n.0 m);
        room = omega (arith, h.room, n.1);
      }

  pub next : (from m : List ℕ) (t : Bool) → t ≡ starts close_square k → t ≡ false → from ≡ after_mark close_square k
      → expected semicolon from ≡ Some m → SoFar S start m got'
  next from m t e f i x =
      let s : starts close_square k ≡ false = sym e ∙ f in
      next_found m s (ap (expected semicolon) (sym (i ∙ passes (starts close_square k) _ k s)) ∙ x)

  pub shorter : (from m : List ℕ) (t : Bool) → t ≡ starts close_square k → t ≡ false → from ≡ after_mark close_square k
      → expected semicolon from ≡ Some m → length m < length here
  shorter from m t e f i x =
      let s : starts close_square k ≡ false = sym e ∙ f in
      let y = ap (expected semicolon) (sym (i ∙ passes (starts close_square k) _ k s)) ∙ x in
      let le = text-le S g.0 here k (sound S here g.0 k g.1.0) in
      let lt = expected-shorter semicolon k m y in
      omega arith
