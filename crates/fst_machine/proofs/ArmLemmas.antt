-- Arms one by one.
use Rattle.std.proofs.Common.{◌≡◌, ℕ, ◌+◌, ◌<◌, List, ◌∷◌, ◌++◌, drop, get_or, length, Ok, Option, Some, None, refl, sym, ap, ◌∙◌, subst}
use Rattle.fst_base.specs.Values.{Val}
use Rattle.fst_terms.specs.Meaning.{Env}
use Rattle.fst_program.specs.declared.comp.Arm.{Arm}
use Rattle.fst_program.specs.declared.comp.Comp.{Comp}
use Rattle.fst_program.specs.declared.definition.DmTerm.{DmTerm}
use Rattle.fst_program.specs.Runs.{parts, if_fits}
use Rattle.fst_machine.specs.Arms.{plain_arms, plain_dm_arms}
use Rattle.fst_machine.specs.declared.memory.Chain.{Chain}
use Rattle.fst_machine.specs.declared.memory.Memory.{Memory}
use Rattle.fst_machine.specs.declared.state.State.{State}
use Rattle.fst_machine.specs.Memories.{IsChain, PartsGive}
use Rattle.fst_machine.specs.States.{StateIs, TurnIs}
use Rattle.fst_machine.specs.Turns.{Hdr, Frm, Turn, run_text, run_def, arm_turn, def_arm_turn}
use Rattle.fst_machine.proofs.ArgumentLemmas.{drop-item}

-- where nothing fits, what follows counts
fits-not : (m : Memory) (o : Option (List Val)) (e : Env) (k : List Val → Turn) (other : Turn) → PartsGive m None o e → if_fits o k other ≡ other
fits-not m None e k other h = refl
fits-not m (Some vs) e k other h = absurd h

fits-taken : (st : State) (m : Memory) (c : Chain) (o : Option (List Val)) (e : Env) (k : List Val → Turn) (other : Turn) → PartsGive m (Some c) o e → ((vs : List Val) → IsChain m c (vs ++ e) → TurnIs st (Ok None) (k vs)) → TurnIs st (Ok None) (if_fits o k other)
fits-taken st m c None e k other h n = absurd h
fits-taken st m c (Some vs) e k other h n = n vs h

module _ (at : ℕ) (v : Val) (e : Env) (s : Val) (fs : List Frm) (arms : List (Arm Comp)) (i : ℕ) (arm : Arm Comp) (lt : i < length arms) (is : arm ≡ get_or arms i arm) where
  here : arm_turn (plain_arms (drop i arms)) at v e s fs ≡ arm_turn (plain_arms (arm ∷ drop (i + 1) arms)) at v e s fs
  here = ap (λ rs. arm_turn (plain_arms rs) at v e s fs) (drop-item arms i arm lt is)

  pub arm-next : (m : Memory) → PartsGive m None (parts arm.con v) e → arm_turn (plain_arms (drop i arms)) at v e s fs ≡ arm_turn (plain_arms (drop (i + 1) arms)) at v e s fs
  arm-next m h = here ∙ fits-not m (parts arm.con v) e _ _ h

  pub arm-taken : (st : State) (m : Memory) (c : Chain) → arm_turn (plain_arms arms) at v e s fs ≡ arm_turn (plain_arms (drop i arms)) at v e s fs → PartsGive m (Some c) (parts arm.con v) e
      → ((vs : List Val) → IsChain m c (vs ++ e) → StateIs st (run_text (Rattle.fst_program.specs.Plain.plain_comp arm.body) (vs ++ e) s) fs) → TurnIs st (Ok None) (arm_turn (plain_arms arms) at v e s fs)
  arm-taken st m c q h n = subst (TurnIs st (Ok None)) (sym (q ∙ here)) (fits-taken st m c (parts arm.con v) e _ _ h n)

module _ (v : Val) (e : Env) (h : Hdr) (fs : List Frm) (arms : List (Arm DmTerm)) (i : ℕ) (arm : Arm DmTerm) (lt : i < length arms) (is : arm ≡ get_or arms i arm) where
  def-here : def_arm_turn (plain_dm_arms (drop i arms)) v e h fs ≡ def_arm_turn (plain_dm_arms (arm ∷ drop (i + 1) arms)) v e h fs
  def-here = ap (λ rs. def_arm_turn (plain_dm_arms rs) v e h fs) (drop-item arms i arm lt is)

  pub def-arm-next : (m : Memory) → PartsGive m None (parts arm.con v) e → def_arm_turn (plain_dm_arms (drop i arms)) v e h fs ≡ def_arm_turn (plain_dm_arms (drop (i + 1) arms)) v e h fs
  def-arm-next m k = def-here ∙ fits-not m (parts arm.con v) e _ _ k

  pub def-arm-taken : (st : State) (m : Memory) (c : Chain) → def_arm_turn (plain_dm_arms arms) v e h fs ≡ def_arm_turn (plain_dm_arms (drop i arms)) v e h fs → PartsGive m (Some c) (parts arm.con v) e
      → ((vs : List Val) → IsChain m c (vs ++ e) → StateIs st (run_def (Rattle.fst_program.specs.Plain.plain_dm arm.body) (vs ++ e) h) fs) → TurnIs st (Ok None) (def_arm_turn (plain_dm_arms arms) v e h fs)
  def-arm-taken st m c q k n = subst (TurnIs st (Ok None)) (sym (q ∙ def-here)) (fits-taken st m c (parts arm.con v) e _ _ k n)
