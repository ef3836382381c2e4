-- What a term breaks by itself.
use Rattle.std.proofs.Common.{◌≡◌, Bool, true, false, not, ◌&&◌, ◌||◌, [], Option, Some, None, refl, if◌then◌else◌}
use Rattle.fst_base.specs.declared.place.Pos.{Pos}
use Rattle.fst_base.specs.declared.rule.Rule.{Rule}
use Rattle.fst_base.specs.declared.rule.Rule.TheVariants as rule
use Rattle.fst_base.specs.Sorts.{Srt, same_sort}
use Rattle.fst_names.specs.Broken.{first_broken, breaks}
use Rattle.fst_names.specs.Names.{unless}
use Rattle.fst_effects.specs.Known.{Entry, Callee}
use Rattle.fst_effects.specs.TermSorts.{is_pure_or_ghost}
use Rattle.fst_effects.specs.TermChecks.{clash_of, need_of, misused_of, not_applied_of}

either : (b : Bool) (r : Rule) (at : Pos) → first_broken (if b then [] else breaks r at.at) ≡ first_broken (unless b (breaks r at.at))
either true r at = refl
either false r at = refl

pub clash-none : (at : Pos) (W : Option Srt) → clash_of at None W ≡ None
unfolding clash_of
clash-none at W = refl

pub clash-free : (at : Pos) (S : Srt) → clash_of at (Some S) None ≡ None
unfolding clash_of
clash-free at S = refl

pub clash-both : (at : Pos) (S T : Srt) → clash_of at (Some S) (Some T) ≡ first_broken (unless (same_sort S T) (breaks rule.SortClash at.at))
unfolding clash_of
clash-both at S T = either (same_sort S T) rule.SortClash at

pub need-none : (at : Pos) → need_of at None ≡ first_broken (unless false (breaks rule.SortClash at.at))
unfolding need_of
need-none at = refl

pub need-some : (at : Pos) (S : Srt) → need_of at (Some S) ≡ None
unfolding need_of
need-some at S = refl

pub misused-none : (gh : Bool) (at : Pos) → misused_of gh at None ≡ None
unfolding misused_of
misused-none gh at = refl

pub misused-some : (gh : Bool) (at : Pos) (x : Entry) → misused_of gh at (Some x) ≡ first_broken (unless (not x.hidden || gh) (breaks rule.GhostUse at.at))
unfolding misused_of
misused-some gh at x = go x.hidden gh
  where
    go : (h g : Bool) → first_broken (if h && not g then breaks rule.GhostUse at.at else []) ≡ first_broken (unless (not h || g) (breaks rule.GhostUse at.at))
    go true true = refl
    go true false = refl
    go false g = refl

pub applied-none : (at : Pos) → not_applied_of at None ≡ None
unfolding not_applied_of
applied-none at = refl

pub applied-some : (at : Pos) (f : Callee) → not_applied_of at (Some f) ≡ first_broken (unless (is_pure_or_ghost f.effect) (breaks rule.NoLift at.at))
unfolding not_applied_of
applied-some at f = either (is_pure_or_ghost f.effect) rule.NoLift at

pub ruleset faults = (clash-none, clash-free, clash-both, need-none, need-some, misused-none, misused-some, applied-none, applied-some)
