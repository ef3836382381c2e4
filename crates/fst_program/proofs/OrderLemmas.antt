-- The functions of a disciplined program stand in order.
use Rattle.std.proofs.Common.{◌≡◌, ℕ, ◌≤◌, Some, sym, subst}
use Rattle.fst_terms.specs.Terms.{Tm, Tms, t_var, t_int, t_bool, t_unit, t_prim, t_if, t_app, t_let, t_end, t_more}
use Rattle.fst_program.specs.Texts.{Cm, CmArms, c_ret, c_let, c_bind, c_ghost, c_assert, c_if, c_match, c_call, c_reify, c_reflect, c_return, c_lift, c_end, c_arm, Fn, Prog, if_there, fun_at}
use Rattle.fst_program.specs.Groups.{TmEarlier, TmsEarlier, CmGrouped, ArmsGrouped}
use Rattle.fst_program.specs.Discipline.{IsDisciplined}
use Rattle.fst_program.specs.Applications.{TmBelow, TmsBelow, CmBelow, ArmsBelow, InOrder}
use Rattle.fst_program.proofs.ThereLemmas.{there}

module _ (P : Prog) (d : IsDisciplined P) (n : ℕ) (f : Fn) (at : fun_at P n ≡ Some f) where
  mutual
    term-below : (t : Tm) → TmEarlier P f.group t → TmBelow f.group t
    term-below (t_var i) h = tt
    term-below (t_int i) h = tt
    term-below (t_bool b) h = tt
    term-below t_unit h = tt
    term-below (t_prim o S ts a) h = terms-below ts h
    term-below (t_if c t u) h = (term-below c h.0, term-below t h.1, term-below u h.2)
    term-below (t_app k S ts) h = let g = there (fun_at P k) _ h.0 in (d.order k n g.0 f g.1.0 at g.1.1.0, terms-below ts h.1)
    term-below (t_let x t u) h = (term-below t h.0, term-below u h.1)

    terms-below : (ts : Tms) → TmsEarlier P f.group ts → TmsBelow f.group ts
    terms-below t_end h = tt
    terms-below (t_more t ts) h = (term-below t h.0, terms-below ts h.1)

  mutual
    text-below : (c : Cm) → CmGrouped P f c → CmBelow P f.group c
    text-below (c_ret t) h = tt
    text-below (c_let x c1 c2) h = (text-below c1 h.0, text-below c2 h.1)
    text-below (c_bind E x c1 c2) h = (text-below c1 h.0, text-below c2 h.1)
    text-below (c_ghost x c1 c2) h = (text-below c1 h.0, text-below c2 h.1)
    text-below (c_assert phi a c) h = (term-below phi h.0, text-below c h.1)
    text-below (c_if t c1 c2) h = (text-below c1 h.0, text-below c2 h.1)
    text-below (c_match t a arms) h = arms-below arms h
    text-below (c_call j ts a) h = let g = there (fun_at P j) _ h in subst (λ o. if_there o (λ f. f.group) 0 ≤ f.group) (sym g.1.0) g.1.1.0
    text-below (c_reify E S c t) h = text-below c h
    text-below (c_reflect E S x c) h = text-below c h
    text-below (c_return E c) h = text-below c h
    text-below (c_lift l c) h = text-below c h

    arms-below : (arms : CmArms) → ArmsGrouped P f arms → ArmsBelow P f.group arms
    arms-below c_end h = tt
    arms-below (c_arm c xs body more) h = (text-below body h.0, arms-below more h.1)

pub in-order : (P : Prog) → IsDisciplined P → InOrder P
in-order P d k f e = (d.groups k f e, text-below P d k f e f.body (d.funs k f e).calls)
