-- Reading a whole text.
use Rattle.std.proofs.Common.{◌≡◌, ℕ, List, [], Option, Some, None, Ok, Err, sym, ap, subst, ◌∙◌}
use Rattle.fst_base.specs.Primitives.{InRange}
use Rattle.fst_base.specs.Sorts.{Srt}
use Rattle.fst_base.specs.Values.{Val, Has, plain_value}
use Rattle.fst_base.specs.declared.value.Value.{Value}
use Rattle.fst_values.specs.declared.fault.ValueFault.{ValueFault}
use Rattle.fst_values.specs.declared.fault.ValueFault.TheVariants.{NotAValue}
use Rattle.fst_values.specs.Tokens.{skip}
use Rattle.fst_values.specs.Texts.{Text, IsText}
use Rattle.fst_values.specs.Reading.{reads, Part, Gives}
use Rattle.fst_values.proofs.SoundLemmas.{sound}
use Rattle.fst_values.proofs.CompleteLemmas.{complete, one_value}
use Rattle.fst_values.proofs.HasLemmas.{text-has}
use Rattle.fst_values.proofs.StepLemmas.{some-is}

module _ (S : Srt) (bytes start rest : List ℕ) (at : start ≡ skip bytes) where
  -- a text is read to its end
  read_whole : (w : Val) → IsText S w bytes → reads S start ≡ Some (w, [])
  read_whole w h = ap (reads S) at ∙ complete S w (skip bytes) [] h

  pub no_text : (fault : ValueFault) → Gives (reads S start) (Err fault) rest → fault ≡ NotAValue → (w : Val) → IsText S w bytes → ⊥
  no_text fault h e w t =
      let k : reads S start ≡ None = subst (λ f. Gives (reads S start) (Err f) rest) e h in
      let r = read_whole w t in
      cc

  pub bytes_left : (part : Option Value) → Gives (reads S start) (Ok part) rest → (rest ≡ [] → ⊥) → (w : Val) → IsText S w bytes → ⊥
  bytes_left part h n w t = n (ap (λ p. p.1) (some-is (h.0, rest) (w, []) (sym h.1.0 ∙ read_whole w t)))

  whole : (part : Option Value) (h : Gives (reads S start) (Ok part) rest) → rest ≡ [] → IsText S h.0 bytes
  whole part h e = subst (λ k. Text S h.0 k []) at (subst (λ k. Text S h.0 start k) e (sound S start h.0 rest h.1.0))

  pub text_read : (part : Option Value) (v : Value) → Gives (reads S start) (Ok part) rest → rest ≡ [] → part ≡ Some v → IsText S (plain_value v) bytes
  text_read part v h e f = let p : Part h.0 (Some v) = subst (Part h.0) f h.1.1 in subst (λ w. IsText S w bytes) (sym p.0) (whole part h e)

  pub only_read : (part : Option Value) (v : Value) → Gives (reads S start) (Ok part) rest → rest ≡ [] → part ≡ Some v
      → (w : Val) → IsText S w bytes → w ≡ plain_value v
  only_read part v h e f w t = one_value S w (plain_value v) bytes t (text_read part v h e f)

  pub sort_read : (part : Option Value) (v : Value) → Gives (reads S start) (Ok part) rest → rest ≡ [] → part ≡ Some v → Has S (plain_value v)
  sort_read part v h e f = text-has S (plain_value v) (skip bytes) [] (text_read part v h e f)

  pub range_read : (part : Option Value) (v : Value) → Gives (reads S start) (Ok part) rest → part ≡ Some v → InRange (plain_value v)
  range_read part v h f = let p : Part h.0 (Some v) = subst (Part h.0) f h.1.1 in subst InRange (sym p.0) p.1

  pub wide_read : (part : Option Value) → Gives (reads S start) (Ok part) rest → rest ≡ [] → part ≡ None
      → (w : Val) × (IsText S w bytes × (InRange w → ⊥))
  wide_read part h e f = (h.0, (whole part h e, subst (Part h.0) f h.1.1))
