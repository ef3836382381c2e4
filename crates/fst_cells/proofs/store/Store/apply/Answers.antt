use Rattle.std.proofs.Common.{◌≡◌, ℤ, pos, false, refl, ◌+ℤ◌, ◌-ℤ◌, ◌*ℤ◌, neg_ℤ, ◌∙◌, SFits, to_z, of_z, rules}
use Rattle.std.specs.Ordering.{int_eq}
use Rattle.std.proofs.Math.Facts.{to_z-of_z}
use mir.Syntax.{w128}
use Rattle.fst_base.specs.Sorts.{plain_sort}
use Rattle.fst_base.specs.Values.{v_none, v_nil}
use Rattle.fst_base.specs.Primitives.{int_of, first, second, quotient, remainder}
use Rattle.fst_base.specs.declared.op.Op.TheVariants as op
use Rattle.fst_cells.specs.Made.{lacks}
use Rattle.fst_cells.proofs.MakeLemmas.{number-at, makes-one, makes-part, passed-on, fresh-one}
use Rattle.fst_cells.proofs.store.Store.apply.Goals as goal

-- a number of 128 bits, read back from its bits
abbrev at : ℤ → ℤ
at z = to_z w128 (of_z w128 z)

back : (z : ℤ) → SFits w128 z → at z ≡ z
back z h = to_z-of_z h

pub returns-in-Add-clause-makes : goal.returns-in-Add-clause-makes
returns-in-Add-clause-makes c = λ vs k.
    let f : ℤ → ℤ → ℤ = λ a b. a +ℤ b in
    let z : ℤ → ℤ → _ = λ a b. false in
    makes-one c.args.op op.Add c.args.args (plain_sort c.args.sort.now) vs c.args.self.now c.number.new.self c.number.result c.in-Add.is
    (c.number.ensures.made (f (int_of (first vs)) (int_of (second vs))) (z (int_of (first vs)) (int_of (second vs)))
    (number-at f z (at c.int.result) (at c.int-in-Add.result) (int_of (first vs)) (int_of (second vs)) c.add.result (back c.int.result (search rules) ∙ c.int.ensures (first vs) k.0) (back c.int-in-Add.result (search rules) ∙ c.int-in-Add.ensures (second vs) k.1) c.add.ensures))
    tt refl (λ full. c.number.ensures.few)

pub returns-in-Sub-clause-makes : goal.returns-in-Sub-clause-makes
returns-in-Sub-clause-makes c = λ vs k.
    let f : ℤ → ℤ → ℤ = λ a b. a -ℤ b in
    let z : ℤ → ℤ → _ = λ a b. false in
    makes-one c.args.op op.Sub c.args.args (plain_sort c.args.sort.now) vs c.args.self.now c.number-in-Sub.new.self c.number-in-Sub.result c.in-Sub.is
    (c.number-in-Sub.ensures.made (f (int_of (first vs)) (int_of (second vs))) (z (int_of (first vs)) (int_of (second vs)))
    (number-at f z (at c.int-in-Sub.result) (at c.int-in-Sub-2.result) (int_of (first vs)) (int_of (second vs)) c.sub.result (back c.int-in-Sub.result (search rules) ∙ c.int-in-Sub.ensures (first vs) k.0) (back c.int-in-Sub-2.result (search rules) ∙ c.int-in-Sub-2.ensures (second vs) k.1) c.sub.ensures))
    tt refl (λ full. c.number-in-Sub.ensures.few)

pub returns-in-Mul-clause-makes : goal.returns-in-Mul-clause-makes
returns-in-Mul-clause-makes c = λ vs k.
    let f : ℤ → ℤ → ℤ = λ a b. a *ℤ b in
    let z : ℤ → ℤ → _ = λ a b. false in
    makes-one c.args.op op.Mul c.args.args (plain_sort c.args.sort.now) vs c.args.self.now c.number-in-Mul.new.self c.number-in-Mul.result c.in-Mul.is
    (c.number-in-Mul.ensures.made (f (int_of (first vs)) (int_of (second vs))) (z (int_of (first vs)) (int_of (second vs)))
    (number-at f z (at c.int-in-Mul.result) (at c.int-in-Mul-2.result) (int_of (first vs)) (int_of (second vs)) c.mul.result (back c.int-in-Mul.result (search rules) ∙ c.int-in-Mul.ensures (first vs) k.0) (back c.int-in-Mul-2.result (search rules) ∙ c.int-in-Mul-2.ensures (second vs) k.1) c.mul.ensures))
    tt refl (λ full. c.number-in-Mul.ensures.few)

pub returns-in-Div-clause-makes : goal.returns-in-Div-clause-makes
returns-in-Div-clause-makes c = λ vs k.
    let f : ℤ → ℤ → ℤ = λ a b. quotient a b in
    let z : ℤ → ℤ → _ = λ a b. int_eq b (pos 0) in
    makes-one c.args.op op.Div c.args.args (plain_sort c.args.sort.now) vs c.args.self.now c.number-in-Div.new.self c.number-in-Div.result c.in-Div.is
    (c.number-in-Div.ensures.made (f (int_of (first vs)) (int_of (second vs))) (z (int_of (first vs)) (int_of (second vs)))
    (number-at f z (at c.int-in-Div.result) (at c.int-in-Div-2.result) (int_of (first vs)) (int_of (second vs)) c.div.result (back c.int-in-Div.result (search rules) ∙ c.int-in-Div.ensures (first vs) k.0) (back c.int-in-Div-2.result (search rules) ∙ c.int-in-Div-2.ensures (second vs) k.1) c.div.ensures))
    tt refl (λ full. c.number-in-Div.ensures.few)

pub returns-in-Rem-clause-makes : goal.returns-in-Rem-clause-makes
returns-in-Rem-clause-makes c = λ vs k.
    let f : ℤ → ℤ → ℤ = λ a b. remainder a b in
    let z : ℤ → ℤ → _ = λ a b. int_eq b (pos 0) in
    makes-one c.args.op op.Rem c.args.args (plain_sort c.args.sort.now) vs c.args.self.now c.number-in-Rem.new.self c.number-in-Rem.result c.in-Rem.is
    (c.number-in-Rem.ensures.made (f (int_of (first vs)) (int_of (second vs))) (z (int_of (first vs)) (int_of (second vs)))
    (number-at f z (at c.int-in-Rem.result) (at c.int-in-Rem-2.result) (int_of (first vs)) (int_of (second vs)) c.rem.result (back c.int-in-Rem.result (search rules) ∙ c.int-in-Rem.ensures (first vs) k.0) (back c.int-in-Rem-2.result (search rules) ∙ c.int-in-Rem-2.ensures (second vs) k.1) c.rem.ensures))
    tt refl (λ full. c.number-in-Rem.ensures.few)

pub returns-in-Neg-clause-makes : goal.returns-in-Neg-clause-makes
returns-in-Neg-clause-makes c = λ vs k.
    let f : ℤ → ℤ → ℤ = λ a b. neg_ℤ a in
    makes-one c.args.op op.Neg c.args.args (plain_sort c.args.sort.now) vs c.args.self.now c.number-in-Neg.new.self c.number-in-Neg.result c.in-Neg.is
    (c.number-in-Neg.ensures.made (f (int_of (first vs)) (int_of (first vs))) false
    (number-at f (λ a b. false) (at c.int-in-Neg.result) (at c.int-in-Neg.result) (int_of (first vs)) (int_of (first vs)) c.neg.result (back c.int-in-Neg.result (search rules) ∙ c.int-in-Neg.ensures (first vs) k.0) (back c.int-in-Neg.result (search rules) ∙ c.int-in-Neg.ensures (first vs) k.0) c.neg.ensures))
    tt refl (λ full. c.number-in-Neg.ensures.few)

pub returns-in-Eq-clause-makes : goal.returns-in-Eq-clause-makes
returns-in-Eq-clause-makes c = λ vs k.
    makes-one c.args.op op.Eq c.args.args (plain_sort c.args.sort.now) vs c.args.self.now c.make_eq.new.self c.make_eq.result c.in-Eq.is
    (c.make_eq.ensures.made vs k)
    tt refl (λ full. c.make_eq.ensures.few full.0 full.1 full.2.0 full.2.1)

pub returns-in-Pair-clause-makes : goal.returns-in-Pair-clause-makes
returns-in-Pair-clause-makes c = λ vs k.
    makes-one c.args.op op.Pair c.args.args (plain_sort c.args.sort.now) vs c.args.self.now c.make_pair.new.self c.make_pair.result c.in-Pair.is
    (c.make_pair.ensures.made vs k)
    c.make_pair.ensures.fresh refl (λ full. fresh-one c.args.self.now c.make_pair.new.self _ c.make_pair.result (c.make_pair.ensures.fresh full.0 full.1 full.2.0 full.2.1))

pub returns-in-Cons-clause-makes : goal.returns-in-Cons-clause-makes
returns-in-Cons-clause-makes c = λ vs k.
    makes-one c.args.op op.Cons c.args.args (plain_sort c.args.sort.now) vs c.args.self.now c.make_cons.new.self c.make_cons.result c.in-Cons.is
    (c.make_cons.ensures.made vs k)
    c.make_cons.ensures.fresh refl (λ full. fresh-one c.args.self.now c.make_cons.new.self _ c.make_cons.result (c.make_cons.ensures.fresh full.0 full.1 full.2.0 full.2.1))

pub returns-in-Just-clause-makes : goal.returns-in-Just-clause-makes
returns-in-Just-clause-makes c = λ vs k.
    makes-one c.args.op op.Just c.args.args (plain_sort c.args.sort.now) vs c.args.self.now c.make_just.new.self c.make_just.result c.in-Just.is
    (c.make_just.ensures.made vs k)
    c.make_just.ensures.fresh refl (λ full. fresh-one c.args.self.now c.make_just.new.self _ c.make_just.result (c.make_just.ensures.fresh full.0 full.1))

pub returns-in-Inl-clause-makes : goal.returns-in-Inl-clause-makes
returns-in-Inl-clause-makes c = λ vs k.
    makes-one c.args.op op.Inl c.args.args (plain_sort c.args.sort.now) vs c.args.self.now c.make_left.new.self c.make_left.result c.in-Inl.is
    (c.make_left.ensures.made vs k)
    c.make_left.ensures.fresh refl (λ full. fresh-one c.args.self.now c.make_left.new.self _ c.make_left.result (c.make_left.ensures.fresh full.0 full.1))

pub returns-in-Inr-clause-makes : goal.returns-in-Inr-clause-makes
returns-in-Inr-clause-makes c = λ vs k.
    makes-one c.args.op op.Inr c.args.args (plain_sort c.args.sort.now) vs c.args.self.now c.make_right.new.self c.make_right.result c.in-Inr.is
    (c.make_right.ensures.made vs k)
    c.make_right.ensures.fresh refl (λ full. fresh-one c.args.self.now c.make_right.new.self _ c.make_right.result (c.make_right.ensures.fresh full.0 full.1))

pub returns-in-Nothing-clause-makes : goal.returns-in-Nothing-clause-makes
returns-in-Nothing-clause-makes c = λ vs k.
    makes-one c.args.op op.Nothing c.args.args (plain_sort c.args.sort.now) vs c.args.self.now c.leaf.new.self c.leaf.result c.in-Nothing.is
    (c.leaf.ensures.made v_none tt)
    tt refl (λ full. c.leaf.ensures.few)

pub returns-in-Nil-clause-makes : goal.returns-in-Nil-clause-makes
returns-in-Nil-clause-makes c = λ vs k.
    makes-one c.args.op op.Nil c.args.args (plain_sort c.args.sort.now) vs c.args.self.now c.leaf-in-Nil.new.self c.leaf-in-Nil.result c.in-Nil.is
    (c.leaf-in-Nil.ensures.made v_nil tt)
    tt refl (λ full. c.leaf-in-Nil.ensures.few)

pub returns-in-Fst-clause-makes : goal.returns-in-Fst-clause-makes
returns-in-Fst-clause-makes c = λ vs k.
    let S = plain_sort c.args.sort.now in
    makes-part c.args.op op.Fst c.args.args S vs c.args.self.now c.part.new.self c.part.result c.in-Fst.is refl
    (c.part.ensures.selects _ (lacks op.Fst (first vs)) (c.fst.ensures.part c.args.self.now (first vs) S (c.head.ensures.value vs k)))
    (λ a x y p q. passed-on c.args.self.now c.part.new.self c.fst.result x c.part.result (c.fst.ensures.found x y (c.head.ensures.there a _ p q)) c.part.ensures.found)

pub returns-in-Snd-clause-makes : goal.returns-in-Snd-clause-makes
returns-in-Snd-clause-makes c = λ vs k.
    let S = plain_sort c.args.sort.now in
    makes-part c.args.op op.Snd c.args.args S vs c.args.self.now c.part-in-Snd.new.self c.part-in-Snd.result c.in-Snd.is refl
    (c.part-in-Snd.ensures.selects _ (lacks op.Snd (first vs)) (c.snd.ensures.part c.args.self.now (first vs) S (c.head-in-Snd.ensures.value vs k)))
    (λ a x y p q. passed-on c.args.self.now c.part-in-Snd.new.self c.snd.result y c.part-in-Snd.result (c.snd.ensures.found x y (c.head-in-Snd.ensures.there a _ p q)) c.part-in-Snd.ensures.found)

pub returns-in-Hd-clause-makes : goal.returns-in-Hd-clause-makes
returns-in-Hd-clause-makes c = λ vs k.
    let S = plain_sort c.args.sort.now in
    makes-part c.args.op op.Hd c.args.args S vs c.args.self.now c.part-in-Hd.new.self c.part-in-Hd.result c.in-Hd.is refl
    (c.part-in-Hd.ensures.selects _ (lacks op.Hd (first vs)) (c.hd.ensures.part c.args.self.now (first vs) S (c.head-in-Hd.ensures.value vs k)))
    (λ a x y p q. passed-on c.args.self.now c.part-in-Hd.new.self c.hd.result x c.part-in-Hd.result (c.hd.ensures.found x y (c.head-in-Hd.ensures.there a _ p q)) c.part-in-Hd.ensures.found)

pub returns-in-Tl-clause-makes : goal.returns-in-Tl-clause-makes
returns-in-Tl-clause-makes c = λ vs k.
    let S = plain_sort c.args.sort.now in
    makes-part c.args.op op.Tl c.args.args S vs c.args.self.now c.part-in-Tl.new.self c.part-in-Tl.result c.in-Tl.is refl
    (c.part-in-Tl.ensures.selects _ (lacks op.Tl (first vs)) (c.tl.ensures.part c.args.self.now (first vs) S (c.head-in-Tl.ensures.value vs k)))
    (λ a x y p q. passed-on c.args.self.now c.part-in-Tl.new.self c.tl.result y c.part-in-Tl.result (c.tl.ensures.found x y (c.head-in-Tl.ensures.there a _ p q)) c.part-in-Tl.ensures.found)

pub returns-in-The-clause-makes : goal.returns-in-The-clause-makes
returns-in-The-clause-makes c = λ vs k.
    let S = plain_sort c.args.sort.now in
    makes-part c.args.op op.The c.args.args S vs c.args.self.now c.part-in-The.new.self c.part-in-The.result c.in-The.is refl
    (c.part-in-The.ensures.selects _ (lacks op.The (first vs)) (c.the.ensures.part c.args.self.now (first vs) S (c.head-in-The.ensures.value vs k)))
    (λ a x p q. passed-on c.args.self.now c.part-in-The.new.self c.the.result x c.part-in-The.result (c.the.ensures.found x (c.head-in-The.ensures.there a _ p q)) c.part-in-The.ensures.found)

pub returns-in-Outl-clause-makes : goal.returns-in-Outl-clause-makes
returns-in-Outl-clause-makes c = λ vs k.
    let S = plain_sort c.args.sort.now in
    makes-part c.args.op op.Outl c.args.args S vs c.args.self.now c.part-in-Outl.new.self c.part-in-Outl.result c.in-Outl.is refl
    (c.part-in-Outl.ensures.selects _ (lacks op.Outl (first vs)) (c.outl.ensures.part c.args.self.now (first vs) S (c.head-in-Outl.ensures.value vs k)))
    (λ a x p q. passed-on c.args.self.now c.part-in-Outl.new.self c.outl.result x c.part-in-Outl.result (c.outl.ensures.found x (c.head-in-Outl.ensures.there a _ p q)) c.part-in-Outl.ensures.found)

pub returns-in-Outr-clause-makes : goal.returns-in-Outr-clause-makes
returns-in-Outr-clause-makes c = λ vs k.
    let S = plain_sort c.args.sort.now in
    makes-part c.args.op op.Outr c.args.args S vs c.args.self.now c.part-in-Outr.new.self c.part-in-Outr.result c.in-Outr.is refl
    (c.part-in-Outr.ensures.selects _ (lacks op.Outr (first vs)) (c.outr.ensures.part c.args.self.now (first vs) S (c.head-in-Outr.ensures.value vs k)))
    (λ a x p q. passed-on c.args.self.now c.part-in-Outr.new.self c.outr.result x c.part-in-Outr.result (c.outr.ensures.found x (c.head-in-Outr.ensures.there a _ p q)) c.part-in-Outr.ensures.found)
