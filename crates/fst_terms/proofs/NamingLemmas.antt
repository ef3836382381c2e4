-- Naming keeps values and sorts, where the names have the values of the terms that they stand for.
use Rattle.std.proofs.Common.{◌≡◌, ℕ, zero, suc, ◌+◌, Bool, true, false, ◌&&◌, if◌then◌else◌, List, [], ◌∷◌, ◌++◌, map, length, get_or, IsTrue, refl, sym, ap, ap₂, ◌∙◌, arith}
use Rattle.std.specs.Prelude.{⊤}
use Rattle.std.proofs.lemmas.Bool.{false≢true}
use Rattle.fst_base.specs.declared.op.Op.{Op}
use Rattle.fst_base.specs.declared.op.Op.TheVariants as op
use Rattle.fst_base.specs.Sorts.{Srt}
use Rattle.fst_base.specs.Values.{v_bool, same}
use Rattle.fst_base.specs.Primitives.{prim, is_true}
use Rattle.fst_base.proofs.ValueLemmas.{same-decides}
use Rattle.fst_terms.specs.Terms.{Tm, Tms, t_var, t_int, t_bool, t_unit, t_prim, t_if, t_app, t_let, t_end, t_more, listed}
use Rattle.fst_terms.specs.Meaning.{Env, Meaning, value, values, lookup, Truth, AllTrue}
use Rattle.fst_terms.specs.Formulas.{sort_of, make}
use Rattle.fst_terms.specs.Same.{same_term, is_among}
use Rattle.fst_terms.proofs.SameLemmas.{same_term-decides}
use Rattle.fst_terms.proofs.MemberLemmas.{AllTm, all-append, Includes}
use Rattle.fst_terms.specs.Cleared.{cleared, all_cleared}
use Rattle.fst_terms.specs.Naming.{is_data, is_comparison, takes_data, named_in, named_among, name_index, renamed, all_renamed, name_fact}
use Rattle.fst_terms.proofs.ClearedLemmas.{side}

-- ---- terms without lets

abbrev mutual
  pub NoLet : Tm → Type 0
  NoLet (t_prim o S ts at) = NoLets ts
  NoLet (t_if c t u) = NoLet c × NoLet t × NoLet u
  NoLet (t_app k S ts) = NoLets ts
  NoLet (t_let x t u) = ⊥
  NoLet _ = ⊤

  pub NoLets : Tms → Type 0
  NoLets t_end = ⊤
  NoLets (t_more t ts) = NoLet t × NoLets ts

first-plain : (ts : Tms) → NoLets ts → NoLet (get_or (listed ts) 0 t_unit)
first-plain t_end h = tt
first-plain (t_more t ts) h = h.0

second-plain : (ts : Tms) → NoLets ts → NoLet (get_or (listed ts) 1 t_unit)
second-plain t_end h = tt
second-plain (t_more t ts) h = first-plain ts h.1

make-plain : (o : Op) (S : Srt) (ts : Tms) → NoLets ts → NoLet (make o S ts 0)
make-plain op.Fst S (t_more (t_prim op.Pair R us at) ts) h = first-plain us h.0
make-plain op.Snd S (t_more (t_prim op.Pair R us at) ts) h = second-plain us h.0
make-plain op.Hd S (t_more (t_prim op.Cons R us at) ts) h = first-plain us h.0
make-plain op.Tl S (t_more (t_prim op.Cons R us at) ts) h = second-plain us h.0
make-plain op.The S (t_more (t_prim op.Just R us at) ts) h = first-plain us h.0
make-plain op.Outl S (t_more (t_prim op.Inl R us at) ts) h = first-plain us h.0
make-plain op.Outr S (t_more (t_prim op.Inr R us at) ts) h = first-plain us h.0
make-plain o S t_end h = none o
  where
    none : (o : Op) → NoLet (make o S t_end 0)
    none op.Fst = tt
    none op.Snd = tt
    none op.Hd = tt
    none op.Tl = tt
    none op.The = tt
    none op.Outl = tt
    none op.Outr = tt
    none o = tt
make-plain o S (t_more t ts) h = h

mutual
  pub cleared-plain : (us : List Tm) (t : Tm) → AllTm NoLet us → NoLet (cleared us t)
  cleared-plain us (t_var i) h = at us i h
    where
      at : (us : List Tm) (i : ℕ) → AllTm NoLet us → NoLet (get_or us i t_unit)
      at [] i h = tt
      at (u ∷ us) zero h = h.0
      at (u ∷ us) (suc i) h = at us i h.1
  cleared-plain us (t_int n) h = tt
  cleared-plain us (t_bool b) h = tt
  cleared-plain us t_unit h = tt
  cleared-plain us (t_prim o S ts at) h = make-plain o S (all_cleared us ts) (all-cleared-plain us ts h)
  cleared-plain us (t_if c t u) h = (cleared-plain us c h, cleared-plain us t h, cleared-plain us u h)
  cleared-plain us (t_app k S ts) h = all-cleared-plain us ts h
  cleared-plain us (t_let x t u) h = cleared-plain (cleared us t ∷ us) u (cleared-plain us t h, h)

  all-cleared-plain : (us : List Tm) (ts : Tms) → AllTm NoLet us → NoLets (all_cleared us ts)
  all-cleared-plain us t_end h = tt
  all-cleared-plain us (t_more t ts) h = (cleared-plain us t h, all-cleared-plain us ts h)

-- ---- lists of names

pub includes-left : (ts us ws : List Tm) → Includes (ts ++ us) ws → Includes ts ws
includes-left [] us ws h = tt
includes-left (t ∷ ts) us ws h = (h.0, includes-left ts us ws h.1)

pub includes-right : (ts us ws : List Tm) → Includes (ts ++ us) ws → Includes us ws
includes-right [] us ws h = h
includes-right (t ∷ ts) us ws h = includes-right ts us ws h.1

pub includes-both : (ts us ws : List Tm) → Includes ts ws → Includes us ws → Includes (ts ++ us) ws
includes-both [] us ws h k = k
includes-both (t ∷ ts) us ws h k = (h.0, includes-both ts us ws h.1 k)

-- every name stands in the list with the names inside it
mutual
  pub names-closed : (Ss : List Srt) (a : Bool) (t : Tm) (ns : List Tm) → Includes (named_in Ss a t) ns → AllTm (λ u. Includes (named_in Ss false u) ns) (named_in Ss a t)
  names-closed Ss a (t_if c t u) ns h =
      let d = is_data (sort_of Ss t) in
      let nc = named_in Ss false c in
      let nt = named_in Ss d t in
      let nu = named_in Ss d u in
      let own = if a then t_if c t u ∷ [] else [] in
      let hp = includes-left (nc ++ nt ++ nu) own ns h in
      let hct = includes-left (nc ++ nt) nu ns hp in
      let Q : Tm → Type 0 = λ w. Includes (named_in Ss false w) ns in
      all-append Q (nc ++ nt ++ nu) own
      (all-append Q (nc ++ nt) nu
      (all-append Q nc nt (names-closed Ss false c ns (includes-left nc nt ns hct)) (names-closed Ss d t ns (includes-right nc nt ns hct)))
      (names-closed Ss d u ns (includes-right (nc ++ nt) nu ns hp)))
      (self a (includes-both (nc ++ nt ++ nu) [] ns hp tt))
    where
      self : (b : Bool) → Includes (named_in Ss false (t_if c t u)) ns → AllTm (λ w. Includes (named_in Ss false w) ns) (if b then t_if c t u ∷ [] else [])
      self true k = (k, tt)
      self false k = tt
  names-closed Ss a (t_prim o S ts at) ns h =
      let na = named_among Ss (takes_data Ss o ts) ts in
      let own = if a && is_comparison o then t_prim o S ts at ∷ [] else [] in
      let hp = includes-left na own ns h in
      all-append (λ w. Includes (named_in Ss false w) ns) na own (names-closed-among Ss (takes_data Ss o ts) ts ns hp) (self (a && is_comparison o) (includes-both na [] ns hp tt))
    where
      self : (b : Bool) → Includes (named_in Ss false (t_prim o S ts at)) ns → AllTm (λ w. Includes (named_in Ss false w) ns) (if b then t_prim o S ts at ∷ [] else [])
      self true k = (k, tt)
      self false k = tt
  names-closed Ss a (t_app k S ts) ns h = names-closed-among Ss true ts ns h
  names-closed Ss a t ns h = tt

  names-closed-among : (Ss : List Srt) (a : Bool) (ts : Tms) (ns : List Tm) → Includes (named_among Ss a ts) ns → AllTm (λ u. Includes (named_in Ss false u) ns) (named_among Ss a ts)
  names-closed-among Ss a t_end ns h = tt
  names-closed-among Ss a (t_more t ts) ns h =
      all-append (λ w. Includes (named_in Ss false w) ns) (named_in Ss a t) (named_among Ss a ts)
      (names-closed Ss a t ns (includes-left (named_in Ss a t) (named_among Ss a ts) ns h)) (names-closed-among Ss a ts ns (includes-right (named_in Ss a t) (named_among Ss a ts) ns h))

-- what is named in a term without lets has none
mutual
  pub names-plain : (Ss : List Srt) (a : Bool) (t : Tm) → NoLet t → AllTm NoLet (named_in Ss a t)
  names-plain Ss a (t_if c t u) h =
      let d = is_data (sort_of Ss t) in
      all-append NoLet (named_in Ss false c ++ named_in Ss d t ++ named_in Ss d u) (if a then t_if c t u ∷ [] else [])
      (all-append NoLet (named_in Ss false c ++ named_in Ss d t) (named_in Ss d u)
      (all-append NoLet (named_in Ss false c) (named_in Ss d t) (names-plain Ss false c h.0) (names-plain Ss d t h.1)) (names-plain Ss d u h.2)) (self a)
    where
      self : (b : Bool) → AllTm NoLet (if b then t_if c t u ∷ [] else [])
      self true = (h, tt)
      self false = tt
  names-plain Ss a (t_prim o S ts at) h =
      all-append NoLet (named_among Ss (takes_data Ss o ts) ts) (if a && is_comparison o then t_prim o S ts at ∷ [] else []) (names-plain-among Ss (takes_data Ss o ts) ts h) (self (a && is_comparison o))
    where
      self : (b : Bool) → AllTm NoLet (if b then t_prim o S ts at ∷ [] else [])
      self true = (h, tt)
      self false = tt
  names-plain Ss a (t_app k S ts) h = names-plain-among Ss true ts h
  names-plain Ss a t h = tt

  names-plain-among : (Ss : List Srt) (a : Bool) (ts : Tms) → NoLets ts → AllTm NoLet (named_among Ss a ts)
  names-plain-among Ss a t_end h = tt
  names-plain-among Ss a (t_more t ts) h = all-append NoLet (named_in Ss a t) (named_among Ss a ts) (names-plain Ss a t h.0) (names-plain-among Ss a ts h.1)

-- ---- the environment with the names' values

module _ (M : Meaning) (e0 : Env) where
  abbrev pub named_env : List Tm → Env → Env
  named_env [] e = e
  named_env (u ∷ us) e = named_env us (value M u e0 ∷ e)

  env-later : (us : List Tm) (e : Env) (i : ℕ) → lookup (named_env us e) (i + length us) ≡ lookup e i
  env-later [] e i = ap (lookup e) (omega arith)
  env-later (u ∷ us) e i = ap (lookup (named_env us (value M u e0 ∷ e))) (omega arith) ∙ env-later us (value M u e0 ∷ e) (suc i)

  env-name : (us : List Tm) (e : Env) (t : Tm) → IsTrue (is_among t us) → lookup (named_env us e) (name_index us t) ≡ value M t e0
  env-name [] e t h = absurd (false≢true h)
  env-name (u ∷ us) e t h = go (env-name us (value M u e0 ∷ e) t) (same_term t u) refl h
    where
      go : (IsTrue (is_among t us) → lookup (named_env us (value M u e0 ∷ e)) (name_index us t) ≡ value M t e0) → (b : Bool) → same_term t u ≡ b → IsTrue (if b then true else is_among t us)
          → lookup (named_env us (value M u e0 ∷ e)) (if b then length us else name_index us t) ≡ value M t e0
      go ih true q k = ap (lookup (named_env us (value M u e0 ∷ e))) (omega arith) ∙ env-later us (value M u e0 ∷ e) 0 ∙ ap (λ w. value M w e0) (sym ((same_term-decides t u).0 q))
      go ih false q k = ih k

  -- renaming keeps values
  module _ (Ss : List Srt) (ns : List Tm) where
    abbrev Env' : Env
    Env' = named_env ns e0

    mutual
      pub renamed-value : (a : Bool) (t : Tm) → NoLet t → Includes (named_in Ss a t) ns → value M (renamed Ss ns a t) Env' ≡ value M t e0
      renamed-value a (t_var i) p h = env-later ns e0 i
      renamed-value a (t_int n) p h = refl
      renamed-value a (t_bool b) p h = refl
      renamed-value a t_unit p h = refl
      renamed-value a (t_if c t u) p h =
          let d = is_data (sort_of Ss t) in
          let nc = named_in Ss false c in
          let nt = named_in Ss d t in
          let nu = named_in Ss d u in
          let hp = includes-left (nc ++ nt ++ nu) (if a then t_if c t u ∷ [] else []) ns h in
          let hct = includes-left (nc ++ nt) nu ns hp in
          go a (includes-right (nc ++ nt ++ nu) (if a then t_if c t u ∷ [] else []) ns h)
          (side (ap is_true (renamed-value false c p.0 (includes-left nc nt ns hct))) (renamed-value d t p.1 (includes-right nc nt ns hct)) (renamed-value d u p.2 (includes-right (nc ++ nt) nu ns hp)))
        where
          go : (b : Bool) → Includes (if b then t_if c t u ∷ [] else []) ns
              → value M (t_if (renamed Ss ns false c) (renamed Ss ns (is_data (sort_of Ss t)) t) (renamed Ss ns (is_data (sort_of Ss t)) u)) Env' ≡ value M (t_if c t u) e0
              → value M (if b then t_var (name_index ns (t_if c t u)) else t_if (renamed Ss ns false c) (renamed Ss ns (is_data (sort_of Ss t)) t) (renamed Ss ns (is_data (sort_of Ss t)) u)) Env' ≡ value M (t_if c t u) e0
          go true k q = env-name ns e0 (t_if c t u) k.0
          go false k q = q
      renamed-value a (t_prim o S ts at) p h =
          let na = named_among Ss (takes_data Ss o ts) ts in
          go (a && is_comparison o) (includes-right na (if a && is_comparison o then t_prim o S ts at ∷ [] else []) ns h)
          (ap (prim o S) (all-renamed-value (takes_data Ss o ts) ts p (includes-left na (if a && is_comparison o then t_prim o S ts at ∷ [] else []) ns h)))
        where
          go : (b : Bool) → Includes (if b then t_prim o S ts at ∷ [] else []) ns → value M (t_prim o S (all_renamed Ss ns (takes_data Ss o ts) ts) at) Env' ≡ value M (t_prim o S ts at) e0
              → value M (if b then t_var (name_index ns (t_prim o S ts at)) else t_prim o S (all_renamed Ss ns (takes_data Ss o ts) ts) at) Env' ≡ value M (t_prim o S ts at) e0
          go true k q = env-name ns e0 (t_prim o S ts at) k.0
          go false k q = q
      renamed-value a (t_app k S ts) p h = ap (M k) (all-renamed-value true ts p h)
      renamed-value a (t_let x t u) p h = absurd p

      all-renamed-value : (a : Bool) (ts : Tms) → NoLets ts → Includes (named_among Ss a ts) ns → values M (all_renamed Ss ns a ts) Env' ≡ values M ts e0
      all-renamed-value a t_end p h = refl
      all-renamed-value a (t_more t ts) p h =
          ap₂ ◌∷◌ (renamed-value a t p.0 (includes-left (named_in Ss a t) (named_among Ss a ts) ns h)) (all-renamed-value a ts p.1 (includes-right (named_in Ss a t) (named_among Ss a ts) ns h))

    -- the fact of a name is true
    fact-true : (d : Bool) (v u : Tm) → value M v Env' ≡ value M u Env' → Truth M (name_fact d v u) Env'
    fact-true true v (t_if c t u) q = go (is_true (value M c Env')) q
      where
        go : (b : Bool) → value M v Env' ≡ (if b then value M t Env' else value M u Env') → (if b then v_bool (same (value M v Env') (value M t Env')) else v_bool (same (value M v Env') (value M u Env'))) ≡ v_bool true
        go true e = ap v_bool ((same-decides _ _).1 e)
        go false e = ap v_bool ((same-decides _ _).1 e)
    fact-true d v u q = ap v_bool ((same-decides (value M v Env') (value M u Env')).1 q)

    pub facts-of-names : (us : List Tm) → AllTm NoLet us → AllTm (λ u. Includes (named_in Ss false u) ns) us → Includes us ns
        → AllTrue M (map (λ u. name_fact (is_data (sort_of Ss u)) (t_var (name_index ns u)) (renamed Ss ns false u)) us) Env'
    facts-of-names [] p c h = tt
    facts-of-names (u ∷ us) p c h = (
      fact-true (is_data (sort_of Ss u)) (t_var (name_index ns u)) (renamed Ss ns false u) (env-name ns e0 u h.0 ∙ sym (renamed-value false u p.0 c.0)),
      facts-of-names us p.1 c.1 h.1,
    )
