-- What a primitive wants of its arguments depends on the sorts that the first two give, where it depends on any, and is at most two sorts.
use Rattle.std.proofs.Common.{◌≡◌, ℕ, List, [], ◌∷◌, Option, refl}
use Rattle.fst_base.specs.declared.op.Op.{Op}
use Rattle.fst_base.specs.declared.op.Op.TheVariants as op
use Rattle.fst_base.specs.Sorts.{Srt}
use Rattle.fst_effects.specs.TermSorts.{first, second, prim_wants, prim_needs, prim_breaks}
use Rattle.fst_effects.specs.TermChecks.{fits_by_parts, seen}

abbrev pub seen_of : Op → List (Option Srt) → List (Option Srt)
seen_of o Gs = seen (fits_by_parts o) (first Gs) (second Gs)

pub wants-seen : (o : Op) (Gs : List (Option Srt)) (W : Option Srt) → prim_wants o (seen_of o Gs) W ≡ prim_wants o Gs W
wants-seen op.Add Gs W = refl
wants-seen op.Sub Gs W = refl
wants-seen op.Mul Gs W = refl
wants-seen op.Div Gs W = refl
wants-seen op.Rem Gs W = refl
wants-seen op.Neg Gs W = refl
wants-seen op.Le Gs W = refl
wants-seen op.Lt Gs W = refl
wants-seen op.Eq Gs W = refl
wants-seen op.Pair Gs W = refl
wants-seen op.Fst Gs W = refl
wants-seen op.Snd Gs W = refl
wants-seen op.Nothing Gs W = refl
wants-seen op.Just Gs W = refl
wants-seen op.Nil Gs W = refl
wants-seen op.Cons Gs W = refl
wants-seen op.Inl Gs W = refl
wants-seen op.Inr Gs W = refl
wants-seen op.Len Gs W = refl
wants-seen op.Hd Gs W = refl
wants-seen op.Tl Gs W = refl
wants-seen op.The Gs W = refl
wants-seen op.Outl Gs W = refl
wants-seen op.Outr Gs W = refl

pub needs-seen : (at : ℕ) (o : Op) (Gs : List (Option Srt)) → prim_needs at o (seen_of o Gs) ≡ prim_needs at o Gs
needs-seen at op.Add Gs = refl
needs-seen at op.Sub Gs = refl
needs-seen at op.Mul Gs = refl
needs-seen at op.Div Gs = refl
needs-seen at op.Rem Gs = refl
needs-seen at op.Neg Gs = refl
needs-seen at op.Le Gs = refl
needs-seen at op.Lt Gs = refl
needs-seen at op.Eq Gs = refl
needs-seen at op.Pair Gs = refl
needs-seen at op.Fst Gs = refl
needs-seen at op.Snd Gs = refl
needs-seen at op.Nothing Gs = refl
needs-seen at op.Just Gs = refl
needs-seen at op.Nil Gs = refl
needs-seen at op.Cons Gs = refl
needs-seen at op.Inl Gs = refl
needs-seen at op.Inr Gs = refl
needs-seen at op.Len Gs = refl
needs-seen at op.Hd Gs = refl
needs-seen at op.Tl Gs = refl
needs-seen at op.The Gs = refl
needs-seen at op.Outl Gs = refl
needs-seen at op.Outr Gs = refl

pub breaks-seen : (at : ℕ) (o : Op) (Gs : List (Option Srt)) (W : Option Srt) → prim_breaks at o (seen_of o Gs) W ≡ prim_breaks at o Gs W
breaks-seen at op.Add Gs W = refl
breaks-seen at op.Sub Gs W = refl
breaks-seen at op.Mul Gs W = refl
breaks-seen at op.Div Gs W = refl
breaks-seen at op.Rem Gs W = refl
breaks-seen at op.Neg Gs W = refl
breaks-seen at op.Le Gs W = refl
breaks-seen at op.Lt Gs W = refl
breaks-seen at op.Eq Gs W = refl
breaks-seen at op.Pair Gs W = refl
breaks-seen at op.Fst Gs W = refl
breaks-seen at op.Snd Gs W = refl
breaks-seen at op.Nothing Gs W = refl
breaks-seen at op.Just Gs W = refl
breaks-seen at op.Nil Gs W = refl
breaks-seen at op.Cons Gs W = refl
breaks-seen at op.Inl Gs W = refl
breaks-seen at op.Inr Gs W = refl
breaks-seen at op.Len Gs W = refl
breaks-seen at op.Hd Gs W = refl
breaks-seen at op.Tl Gs W = refl
breaks-seen at op.The Gs W = refl
breaks-seen at op.Outl Gs W = refl
breaks-seen at op.Outr Gs W = refl

-- what holds of each list of at most two sorts holds of what is wanted
pub by-shape : (Q : List (Option Srt) → Type 0) → Q [] → ((W : Option Srt) → Q (W ∷ [])) → ((V W : Option Srt) → Q (V ∷ W ∷ [])) → (o : Op) (Gs : List (Option Srt)) (W : Option Srt) → Q (prim_wants o Gs W)
by-shape Q none one two op.Add Gs W = two _ _
by-shape Q none one two op.Sub Gs W = two _ _
by-shape Q none one two op.Mul Gs W = two _ _
by-shape Q none one two op.Div Gs W = two _ _
by-shape Q none one two op.Rem Gs W = two _ _
by-shape Q none one two op.Neg Gs W = one _
by-shape Q none one two op.Le Gs W = two _ _
by-shape Q none one two op.Lt Gs W = two _ _
by-shape Q none one two op.Eq Gs W = two _ _
by-shape Q none one two op.Pair Gs W = two _ _
by-shape Q none one two op.Fst Gs W = one _
by-shape Q none one two op.Snd Gs W = one _
by-shape Q none one two op.Nothing Gs W = none
by-shape Q none one two op.Just Gs W = one _
by-shape Q none one two op.Nil Gs W = none
by-shape Q none one two op.Cons Gs W = two _ _
by-shape Q none one two op.Inl Gs W = one _
by-shape Q none one two op.Inr Gs W = one _
by-shape Q none one two op.Len Gs W = one _
by-shape Q none one two op.Hd Gs W = two _ _
by-shape Q none one two op.Tl Gs W = two _ _
by-shape Q none one two op.The Gs W = two _ _
by-shape Q none one two op.Outl Gs W = two _ _
by-shape Q none one two op.Outr Gs W = two _ _
