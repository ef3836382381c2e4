-- Steps of a close: reading nodes, what a step that joins nothing gives, steps one after the other.
use Rattle.std.proofs.Common.{◌≡◌, ℕ, ◌+◌, ◌-◌, ◌<◌, ◌≤◌, ◌⊎◌, inl, inr, Bool, true, false, ◌||◌, List, [], length, get_or, refl, sym, ap, subst, ◌∙◌, arith}
use Rattle.std.proofs.lemmas.Bool.{false≢true, cases_lt}
use Rattle.std.proofs.lemmas.List.{get_or_default}
use Rattle.fst_congruence.specs.declared.equation.Equation.{Equation}
use Rattle.fst_cert.specs.declared.line.Line.TheVariants as line
use Rattle.fst_congruence.specs.declared.node.Node.{Node}
use Rattle.fst_congruence.specs.Joined.{node_at, arg_at, arity, Alike, SameConstructor}
use Rattle.fst_congruence.specs.declared.classes.Classes.{Classes}
use Rattle.fst_congruence.specs.Lines.{At, StrictReason, SliceReasons, Holds, Grown, grown_none}
use Rattle.fst_congruence.specs.Classes.{label_at, Sound, ArgsLabelled, After, Joins, roots}
use Rattle.fst_congruence.specs.Steps.{IsTable, NodeFits, arity_of, Step, Fits, ArgsWithin, SidesLabelled}
use Rattle.fst_congruence.proofs.LogLemmas.{grown-grown, grown-more}

-- ---- reading nodes

pub node-is : (ns : List Node) (i : ℕ) (n : Node) → n ≡ get_or ns i n → i < length ns → node_at ns i ≡ n
node-is ns i n e lt = get_or_default ns i _ n lt ∙ sym e

pub kind-is : (ns : List Node) (i j : ℕ) (n m : Node) → node_at ns i ≡ n → node_at ns j ≡ m → Alike ns i j → n.kind ≡ m.kind
kind-is ns i j n m p q h = sym (ap (λ (o : Node). o.kind) p) ∙ h.kind ∙ ap (λ (o : Node). o.kind) q

pub kind-some : (ns : List Node) (i j : ℕ) (n : Node) → node_at ns i ≡ n → Alike ns i j → n.kind ≡ 0 → ⊥
kind-some ns i j n p h none = let is : (node_at ns i).kind ≡ n.kind = ap (λ (o : Node). o.kind) p in omega (arith, is, none, h.some)

pub arity-is : (ns : List Node) (i : ℕ) (n : Node) → node_at ns i ≡ n → arity ns i ≡ length n.args
arity-is ns i n p = ap (λ (o : Node). length o.args) p

pub count-is : (ns : List Node) (i j : ℕ) (n m : Node) → node_at ns i ≡ n → node_at ns j ≡ m → Alike ns i j → length n.args ≡ length m.args
count-is ns i j n m p q h = sym (arity-is ns i n p) ∙ h.arity ∙ arity-is ns j m q

pub alike-from : (ns : List Node) (i j : ℕ) (n m : Node) → node_at ns i ≡ n → node_at ns j ≡ m → i < length ns → j < length ns → (n.kind ≡ 0 → ⊥) → n.kind ≡ m.kind → length n.args ≡ length m.args → Alike ns i j
alike-from ns i j n m p q first second some kind count = record {
  first = first;
  second = second;
  some = (let is : (node_at ns i).kind ≡ n.kind = ap (λ (o : Node). o.kind) p in let above : n.kind ≡ 0 → ⊥ = some in omega (arith, is));
  kind = ap (λ (o : Node). o.kind) p ∙ kind ∙ sym (ap (λ (o : Node). o.kind) q);
  arity = arity-is ns i n p ∙ count ∙ sym (arity-is ns j m q);
}

pub args-are : (ns : List Node) (i : ℕ) (n : Node) (xs : List ℕ) → node_at ns i ≡ n → xs ≡ n.args → (node_at ns i).args ≡ xs
args-are ns i n xs p e = ap (λ (o : Node). o.args) p ∙ sym e

pub args-within : (ns : List Node) (i size : ℕ) (xs : List ℕ) → (node_at ns i).args ≡ xs → ArgsWithin ns → i < length ns → size ≡ length ns → (k : ℕ) → k < length xs → get_or xs k 0 < size
args-within ns i size xs e h lt is k q =
    let within : arg_at ns i k < length ns = h i k lt (omega (arith, q, ap (λ (ys : List ℕ). length ys) e)) in
    let same : arg_at ns i k ≡ get_or xs k 0 = ap (λ (ys : List ℕ). get_or ys k 0) e in
    omega (arith, within, same, is)

pub args-within-other : (ns : List Node) (i size : ℕ) (xs ys : List ℕ) → (node_at ns i).args ≡ ys → ArgsWithin ns → i < length ns → size ≡ length ns → length xs ≡ length ys → (k : ℕ) → k < length xs → get_or ys k 0 < size
args-within-other ns i size xs ys e h lt is same k q = args-within ns i size ys e h lt is k (omega (arith, q, same))

-- ---- steps

pub step-none : (ns : List Node) (es : List Equation) (c : Classes) → Sound c → Step ns es c c false
step-none ns es c h = record {
  sound = h;
  grown = grown_none;
  count = refl;
  still = λ e. refl;
  fewer = λ e. absurd (false≢true e);
}

-- classes with a longer log, and then two of them joined
pub step-joined : (ns : List Node) (es : List Equation) (old new : Classes) (log : List Equation) → Grown ns es old.log log → Joins (record { labels = old.labels; whys = old.whys; members = old.members; log = log }) new → Step ns es old new true
step-joined ns es old new log g j = record {
  sound = j.sound;
  grown = grown-grown ns es old.log log new.log g (j.grown.by ns es);
  count = j.count;
  still = λ e. absurd (false≢true (sym e));
  fewer = λ e. j.fewer;
}

-- a step after the log has grown
pub step-after : (ns : List Node) (es : List Equation) (a b c : Classes) (joined : Bool) → After a b → Step ns es b c joined → Step ns es a c joined
step-after ns es a b c joined p s = record {
  sound = s.sound;
  grown = grown-grown ns es a.log b.log c.log (p.grown.by ns es) s.grown;
  count = s.count ∙ ap (λ ls. length ls) p.labels;
  still = λ e. s.still e ∙ p.labels;
  fewer = λ e. (let same : roots b.labels ≡ roots a.labels = ap roots p.labels in let less = s.fewer e in omega (arith, same, less));
}

-- whatever is claimed of a step that joined nothing, where it joined something
pub not-still : {A : Type 0} → true ≡ false → A
not-still e = absurd (false≢true (sym e))

pub fits-step : (ns : List Node) (es : List Equation) (old new : Classes) (joined : Bool) → Step ns es old new joined → Fits ns old → Fits ns new
fits-step ns es old new joined s f = record { table = f.table; sound = s.sound; count = s.count ∙ f.count }

-- ---- the line of two terms with joined arguments

pub args-holds : (ns : List Node) (log : List Equation) (i j : ℕ) (xs ys reasons : List ℕ) → Alike ns i j → (node_at ns i).args ≡ xs → (node_at ns j).args ≡ ys
    → SliceReasons log xs ys (length xs) reasons → Holds ns [] log (record { left = i; right = j; by = line.Same i j reasons })
args-holds ns log i j xs ys reasons a p q h = inr (
  refl,
  (
    refl,
    record {
      alike = a;
      count = h.count ∙ sym (ap (λ (zs : List ℕ). length zs) p);
      each = λ k lt.
          (let below : k < length xs = omega (arith, lt, ap (λ (zs : List ℕ). length zs) p) in
          subst (λ x. StrictReason log (get_or reasons k 0) x (arg_at ns j k)) (sym (ap (λ (zs : List ℕ). get_or zs k 0) p))
          (subst (λ y. StrictReason log (get_or reasons k 0) (get_or xs k 0) y) (sym (ap (λ (zs : List ℕ). get_or zs k 0) q)) (h.each k below)));
    },
  ),
)

-- the same labels of arguments, by their lists
pub labelled-args : (ns : List Node) (labels : List ℕ) (i j : ℕ) (xs ys : List ℕ) → (node_at ns i).args ≡ xs → (node_at ns j).args ≡ ys → ArgsLabelled ns labels i j
    → (k : ℕ) → k < length xs → label_at labels (get_or xs k 0) ≡ label_at labels (get_or ys k 0)
labelled-args ns labels i j xs ys p q h k lt =
    let below : k < arity ns i = omega (arith, lt, ap (λ (zs : List ℕ). length zs) p) in
    ap (λ (zs : List ℕ). label_at labels (get_or zs k 0)) (sym p) ∙ h k below ∙ ap (λ (zs : List ℕ). label_at labels (get_or zs k 0)) q

-- ---- the line of two parts

pub constructor-is : (ns : List Node) (i : ℕ) (n : Node) → node_at ns i ≡ n → (node_at ns i).constructor ≡ n.constructor
constructor-is ns i n p = ap (λ (o : Node). o.constructor) p

pub constructors-same : (ns : List Node) (i j : ℕ) (n m : Node) → node_at ns i ≡ n → node_at ns j ≡ m → (n.constructor ≡ 0 → ⊥) → n.constructor ≡ m.constructor → SameConstructor ns i j
constructors-same ns i j n m p q some same =
    let first : (node_at ns i).constructor ≡ n.constructor = constructor-is ns i n p in
    let above : n.constructor ≡ 0 → ⊥ = some in
    record { some = omega (arith, first, above); same = first ∙ same ∙ sym (constructor-is ns j m q) }

pub part-is : (ns : List Node) (i k : ℕ) (xs : List ℕ) → (node_at ns i).args ≡ xs → arg_at ns i k ≡ get_or xs k 0
part-is ns i k xs p = ap (λ (zs : List ℕ). get_or zs k 0) p

pub part-holds : (ns : List Node) (log : List Equation) (i j k x y whole : ℕ) → At log whole i j → SameConstructor ns i j → k < arity ns i → k < arity ns j → arg_at ns i k ≡ x → arg_at ns j k ≡ y
    → Holds ns [] log (record { left = x; right = y; by = line.Part whole (k + 1) })
part-holds ns log i j k x y whole h s p q e f = inr (record {
  left = i;
  right = j;
  line = h;
  same = s;
  counted = omega arith;
  first = omega (arith, p);
  second = omega (arith, q);
  left_part = ap (arg_at ns i) (let back : k + 1 - 1 ≡ k = omega arith in back) ∙ e;
  right_part = ap (arg_at ns j) (let back : k + 1 - 1 ≡ k = omega arith in back) ∙ f;
})

-- two terms whose parts in one place have different labels are different
pub different : (ns : List Node) (labels : List ℕ) (i j k x y : ℕ) → arg_at ns i k ≡ x → arg_at ns j k ≡ y → (label_at labels x ≡ label_at labels y → ⊥) → i ≡ j → ⊥
different ns labels i j k x y e f n same = n (ap (label_at labels) (sym e ∙ ap (λ m. arg_at ns m k) same ∙ f))

-- ---- steps one after the other

pub either-false : (a b : Bool) → (a || b) ≡ false → (a ≡ false) × (b ≡ false)
either-false true b e = not-still e
either-false false b e = (refl, e)

either-true : (a b : Bool) → (a || b) ≡ true → (a ≡ true) ⊎ (b ≡ true)
either-true true b e = inl refl
either-true false b e = inr e

-- no more classes after a step than before it
step-fewer : (ns : List Node) (es : List Equation) (old new : Classes) (joined : Bool) → Step ns es old new joined → roots new.labels ≤ roots old.labels
step-fewer ns es old new true s = omega (arith, s.fewer refl)
step-fewer ns es old new false s = let same : roots new.labels ≡ roots old.labels = ap roots (s.still refl) in omega (arith, same)

pub step-step : (ns : List Node) (es : List Equation) (a b c : Classes) (first second : Bool) → Step ns es a b first → Step ns es b c second → Step ns es a c (first || second)
step-step ns es a b c first second s t = record {
  sound = t.sound;
  grown = grown-grown ns es a.log b.log c.log s.grown t.grown;
  count = t.count ∙ s.count;
  still = λ e. t.still (either-false first second e).1 ∙ s.still (either-false first second e).0;
  fewer = λ e. fewer (either-true first second e);
}
  where
    fewer : (first ≡ true) ⊎ (second ≡ true) → roots c.labels < roots a.labels
    fewer (inl e) = omega (arith, s.fewer e, step-fewer ns es b c second t)
    fewer (inr e) = omega (arith, t.fewer e, step-fewer ns es a b first s)

pub step-more : (ns : List Node) (es : List Equation) (a b : Classes) (joined : Bool) → Step ns [] a b joined → Step ns es a b joined
step-more ns es a b joined s = record { sound = s.sound; grown = grown-more ns es a.log b.log s.grown; count = s.count; still = s.still; fewer = s.fewer }

-- what steps that joined nothing have found, place by place: Found says what is found of labels at a place
pub found-more : (Found : List ℕ → ℕ → Type 0) (before after : List ℕ) (n : ℕ) (first second : Bool) → (second ≡ false → after ≡ before)
    → (first ≡ false → (k : ℕ) → k < n → Found before k) → (second ≡ false → Found after n) → (first || second) ≡ false → (k : ℕ) → k < n + 1 → Found after k
found-more Found before after n first second still h here e k lt = go (cases_lt k n)
  where
    go : (k < n) ⊎ (n ≤ k) → Found after k
    go (inl below) = subst (λ labels. Found labels k) (sym (still (either-false first second e).1)) (h (either-false first second e).0 k below)
    go (inr le) = let same : n ≡ k = omega arith in subst (λ m. Found after m) same (here (either-false first second e).1)

-- what two steps that joined nothing have found
pub found-both : (First Second : List ℕ → Type 0) (between after : List ℕ) (first second : Bool) → (second ≡ false → after ≡ between) → (first ≡ false → First between) → (second ≡ false → Second after) → (first || second) ≡ false → First after × Second after
found-both First Second between after first second still g h e =
    (subst First (sym (still (either-false first second e).1)) (g (either-false first second e).0), h (either-false first second e).1)

-- ---- equations and lines

-- an equation at a place, whatever the default
pub item-found : (es : List Equation) (labels : List ℕ) (i : ℕ) (e : Equation) → e ≡ get_or es i e → i < length es → SidesLabelled labels e → (d : Equation) → SidesLabelled labels (get_or es i d)
item-found es labels i e is lt h d = subst (SidesLabelled labels) (is ∙ get_or_default es i e d lt) h

-- the line by which a term is the same as itself
pub itself-holds : (ns : List Node) (log : List Equation) (i : ℕ) (reasons : List ℕ) → i < length ns → 0 < (node_at ns i).kind → length reasons ≡ arity ns i → ((k : ℕ) → get_or reasons k 0 ≡ 0)
    → Holds ns [] log (record { left = i; right = i; by = line.Same i i reasons })
itself-holds ns log i reasons lt some count zero = inr (
  refl,
  (
    refl,
    record {
      alike = record { first = lt; second = lt; some = some; kind = refl; arity = refl };
      count = count;
      each = λ k below. inl (zero k, refl);
    },
  ),
)

-- ---- tables

pub table-of : (ns : List Node) → ((i : ℕ) → i < length ns → NodeFits (node_at ns i) (length ns)) → IsTable ns
table-of ns h = record {
  within = λ i k lt q. (h i lt).args k q;
  arities = λ i j p q s. (h i p).arity s.some ∙ ap arity_of s.same ∙ sym ((h j q).arity (subst (λ c. 0 < c) s.same s.some));
}
