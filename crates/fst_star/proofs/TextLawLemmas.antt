-- The laws on the translation, for headers and places as contracts say them.
use Rattle.std.proofs.Common.{◌≡◌, ℕ, zero, suc, ◌+◌, ◌≤◌, Bool, if◌then◌else◌, List, [], ◌∷◌, ◌++◌, length, map, Option, Some, None, refl, sym, ap, ◌∙◌, subst, arith}
use Rattle.std.proofs.lemmas.Bool.{le-ltb}
use Rattle.fst_base.specs.Sorts.{Srt, put_sorts}
use Rattle.fst_base.specs.Values.{Val, Has}
use Rattle.fst_terms.specs.Meaning.{Env, Meaning, lookup}
use Rattle.fst_terms.specs.Terms.{Tm}
use Rattle.fst_terms.proofs.TermLemmas.{Widens}
use Rattle.fst_program.specs.Good.{IsFine}
use Rattle.fst_program.specs.Runs.{Outcome, Done, Out, Wide, Stuck, GhostOut, Run, spend, then_do}
use Rattle.fst_program.specs.Sorted.{FSorts, GSorts}
use Rattle.fst_program.specs.Texts.{Prog}
use Rattle.fst_program.proofs.Modality.{Modality}
use Rattle.fst_star.specs.Transformers.{Wt, Holes, demands}
use Rattle.fst_star.specs.Translation.{Scope}
use Rattle.fst_star.specs.TextLaws.{AreSorted, Fits, FitsOn, Header, RunsFit, StandsAt, StarIsExact, TextsFitStar, tested}
use Rattle.fst_star.proofs.ExactTranslation as exact
use Rattle.fst_star.proofs.FittingTexts as fitting
use Rattle.fst_star.proofs.Places.{AllOf}
use Rattle.fst_star.proofs.StarMeets.{ResultF, ResultG, f_at, g_at}

-- ---- places

past-front : (vs e : Env) (j : ℕ) → lookup (vs ++ e) (j + length vs) ≡ lookup e j
past-front [] e j = let q : j + length {A = Val} [] ≡ j = omega arith in ap (lookup e) q
past-front (v ∷ vs) e j = let q : j + length (v ∷ vs) ≡ suc (j + length vs) = omega arith in ap (lookup (v ∷ (vs ++ e))) q ∙ past-front vs e j

widens : (vs e : Env) → Widens 0 (length vs) e (vs ++ e)
widens vs e j = ap (λ b. lookup (vs ++ e) (if b then j else j + length vs)) (le-ltb j 0 (omega arith)) ∙ past-front vs e j

module _ (P : Prog) (M : Meaning) where
  all-sorted : (Ss : List Srt) (us : List Tm) (Us : List Srt) → AreSorted P M Ss us Us → AllOf P Ss us Us
  all-sorted Ss [] [] h = tt
  all-sorted Ss [] (U ∷ Us) h = absurd h
  all-sorted Ss (u ∷ us) [] h = absurd h
  all-sorted Ss (u ∷ us) (U ∷ Us) h = (h.0, all-sorted Ss us Us h.1)

  wide-place : (Ss : List Srt) (sc : Scope) (us : List Tm) (n : ℕ) (x e e0 : Env) → StandsAt P M Ss sc us n x e e0 → Widens 0 n e0 x
  wide-place Ss sc us n x e e0 p = subst (λ n. Widens 0 n e0 x) p.many (subst (λ x. Widens 0 (length p.new) e0 x) (sym p.is) (widens p.new e0))

-- ---- the rules

result-f : (o : Option FSorts) (rf : Srt) → ((z : FSorts) → o ≡ Some z → z.result ≡ rf) → ResultF o rf
result-f None rf h = tt
result-f (Some z) rf h = h z refl

result-g : (o : Option GSorts) (rg : Srt) → ((z : GSorts) → o ≡ Some z → z.result ≡ rg) → ResultG o rg
result-g None rg h = tt
result-g (Some z) rg h = h z refl

keeps-f : (P : Prog) (M : Meaning) (H : Holes) (F G : Wt) (e0 : Env) (o : Option FSorts) → ((z : FSorts) → o ≡ Some z → (s r : Val) → Has z.input s → demands M H F (s ∷ e0) r → Has z.result r) → exact.KeepsF P M H F G e0 o
keeps-f P M H F G e0 None h = tt
keeps-f P M H F G e0 (Some z) h = h z refl

keeps-g : (P : Prog) (M : Meaning) (H : Holes) (F G : Wt) (e0 : Env) (o : Option GSorts) → ((z : GSorts) → o ≡ Some z → (v s r : Val) → Has z.value v → Has z.input s → demands M H G (s ∷ v ∷ e0) r → Has z.result r) → exact.KeepsG P M H F G e0 o
keeps-g P M H F G e0 None h = tt
keeps-g P M H F G e0 (Some z) h = h z refl

pub star-is-exact : (P : Prog) → StarIsExact P
star-is-exact P M T h e0 is d Ss R sorted full sc us n x e p =
    let H = tested T in
    let z = exact.star-exact P M H h.f h.g e0 h.takes_f h.takes_g h.rf h.rg (result-f h.takes_f h.rf is.f_gives) (result-g h.takes_g h.rg is.g_gives)
    (keeps-f P M H h.f h.g e0 h.takes_f is.f_keeps) (keeps-g P M H h.f h.g e0 h.takes_g is.g_keeps)
    d Ss R sc us n x e sorted full
    (record { sorted = all-sorted P M sc.sorts us Ss p.sorted; values = p.values; have = p.have; widens = wide-place P M Ss sc us n x e e0 p }) in
    record { safe_to = z.safe_to; safe_from = z.safe_from; demands_to = z.demands_to; demands_from = z.demands_from }

-- ---- runs

fits-next : (Q R : Val → Type 0) (r : ℕ → Outcome) (k : ℕ → Val → ℕ → Outcome) → FitsOn Q r → ((v : Val) → Q v → Fits R (λ G l. k G v l)) → FitsOn R (λ G. then_do (r G) (λ v l. k G v l))
fits-next Q R r k x y = go x.outcome x.fine x.same
  where
    go : (o : Outcome) → IsFine Q o → ((G : ℕ) → x.from ≤ G → r G ≡ o) → FitsOn R (λ G. then_do (r G) (λ v l. k G v l))
    go (Done v l) f same =
        let z = y v f l in
        record { from = x.from + z.from; outcome = z.outcome; fine = z.fine; same = λ G le. ap (λ o. then_do o (λ v l. k G v l)) (same G (omega arith)) ∙ z.same G (omega arith) }
    go Out f same = record { from = x.from; outcome = Out; fine = tt; same = λ G le. ap (λ o. then_do o (λ v l. k G v l)) (same G le) }
    go Wide f same = record { from = x.from; outcome = Wide; fine = tt; same = λ G le. ap (λ o. then_do o (λ v l. k G v l)) (same G le) }
    go (Stuck at) f same = absurd f
    go GhostOut f same = absurd f

fits-unit : (Q : Val → Type 0) (r : ℕ → ℕ → Outcome) → Fits Q r → Fits Q (λ G F. spend F (λ l. r G l))
fits-unit Q r x zero = record { from = 0; outcome = Out; fine = tt; same = λ G le. refl }
fits-unit Q r x (suc l) = let z = x l in record { from = z.from; outcome = z.outcome; fine = z.fine; same = z.same }

fine-weaken : (Q R : Val → Type 0) → ((v : Val) → Q v → R v) → (o : Outcome) → IsFine Q o → IsFine R o
fine-weaken Q R h (Done v l) f = h v f
fine-weaken Q R h Out f = tt
fine-weaken Q R h Wide f = tt
fine-weaken Q R h (Stuck at) f = absurd f
fine-weaken Q R h GhostOut f = absurd f

-- definition texts have no ghost parts
no_ghosts : (Val → Type 0) → (ℕ → Outcome) → Type 0
no_ghosts Q g = ⊥

fits-rules : (b : Bool) → Modality ℕ b Fits no_ghosts
unfolding no_ghosts
fits-rules b = record {
  done = λ Q v q F. record { from = 0; outcome = Done v F; fine = q; same = λ G le. refl };
  wide = λ Q e F. record { from = 0; outcome = Wide; fine = tt; same = λ G le. refl };
  unit = fits-unit;
  next = λ Q R r k x y F. fits-next Q R (λ G. r G F) k (x F) y;
  ghost = λ Q R g k x y. absurd x;
  weaken = λ Q R r h x F. let z = x F in record { from = z.from; outcome = z.outcome; fine = fine-weaken Q R h z.outcome z.fine; same = z.same };
}

module _ (P : Prog) (M : Meaning) (H : Holes) (h : Header) (e0 : Env) (A B : Srt) (b : Bool) (f : ℕ → Run) (g : ℕ → Val → Run) (fit : RunsFit M H h e0 A B f g) where
  result-f-at : (o : Option FSorts) → h.takes_f ≡ o → ResultF (f_at A B o) h.rf
  result-f-at None q = tt
  result-f-at (Some z) q = fit.f_gives z q

  result-g-at : (o : Option GSorts) → h.takes_g ≡ o → ResultG (g_at A B o) h.rg
  result-g-at None q = tt
  result-g-at (Some z) q = fit.g_gives z q

  fits-f : (o : Option FSorts) → h.takes_f ≡ o → fitting.FitsF P M H A B ℕ b Fits no_ghosts (fits-rules b) e0 o h.f f
  fits-f None q = tt
  fits-f (Some z) q = fit.f_fits z q

  fits-g : (o : Option GSorts) → h.takes_g ≡ o → fitting.FitsG P M H A B ℕ b Fits no_ghosts (fits-rules b) e0 o h.g g
  fits-g None q = tt
  fits-g (Some z) q = fit.g_fits z q

pub texts-fit : (P : Prog) → TextsFitStar P
texts-fit P M T h e0 A B b f g fit d Ss R sorted full sc us n x e p s =
    let H = tested T in
    fitting.dm-fits P M H A B ℕ b Fits no_ghosts (fits-rules b) e0 h.takes_f h.takes_g h.rf h.rg
    (result-f-at P M H h e0 A B b f g fit h.takes_f refl) (result-g-at P M H h e0 A B b f g fit h.takes_g refl) h.f h.g f g
    (fits-f P M H h e0 A B b f g fit h.takes_f refl) (fits-g P M H h e0 A B b f g fit h.takes_g refl)
    d Ss R sc us n x e sorted full
    (record { sorted = all-sorted P M sc.sorts us (map (put_sorts A B) Ss) p.sorted; values = p.values; have = p.have; widens = wide-place P M (map (put_sorts A B) Ss) sc us n x e e0 p }) s
