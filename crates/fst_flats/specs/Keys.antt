-- A number that equal terms share, by which a list of terms is searched.
use Rattle.std.specs.Prelude.{ℕ, suc, ◌+◌, ◌*◌, ◌%◌, ◌^◌, if◌then◌else◌, nat_abs, List, [], ◌∷◌, map}
use Rattle.fst_base.specs.declared.op.Op.{Op}
use Rattle.fst_base.specs.declared.op.Op.TheVariants as op
use Rattle.fst_terms.specs.Terms.{Tm, Tms, t_var, t_int, t_bool, t_unit, t_prim, t_if, t_app, t_let, t_end, t_more, plain_term}
use Rattle.fst_terms.specs.Same.{same_term}
use Rattle.fst_terms.specs.declared.term.Term.{Term}

unfoldable pub mix : ℕ → ℕ → ℕ
mix a b = ((a * 1099511628211) % 2 ^ 64 + b) % 2 ^ 64

-- the place of an operator in the table of primitives
abbrev pub op_number : Op → ℕ
op_number op.Add = 0
op_number op.Sub = 1
op_number op.Mul = 2
op_number op.Div = 3
op_number op.Rem = 4
op_number op.Neg = 5
op_number op.Le = 6
op_number op.Lt = 7
op_number op.Eq = 8
op_number op.Pair = 9
op_number op.Fst = 10
op_number op.Snd = 11
op_number op.Nothing = 12
op_number op.Just = 13
op_number op.Nil = 14
op_number op.Cons = 15
op_number op.Inl = 16
op_number op.Inr = 17
op_number op.Len = 18
op_number op.Hd = 19
op_number op.Tl = 20
op_number op.The = 21
op_number op.Outl = 22
op_number op.Outr = 23

-- the key of a term: of a literal its low bits, of a term with parts its head and the keys of its parts
abbrev mutual
  pub key : Tm → ℕ
  key (t_var i) = mix 1 i
  key (t_int n) = mix 2 (nat_abs n % 2 ^ 32)
  key (t_bool b) = if b then 3 else 4
  key t_unit = 5
  key (t_prim o S ts at) = key_from (mix 6 (op_number o)) ts
  key (t_if c t u) = mix (mix (mix 7 (key c)) (key t)) (key u)
  key (t_app k S ts) = key_from (mix 8 k) ts
  key (t_let x t u) = mix (mix 9 (key t)) (key u)

  pub key_from : ℕ → Tms → ℕ
  key_from h t_end = h
  key_from h (t_more t ts) = key_from (mix h (key t)) ts

-- the keys of these terms
abbrev pub keys_of : List Term → List ℕ
keys_of ts = map (λ t. key (plain_term t)) ts

-- the place of a term among these, and their number where it isn't there
abbrev pub place_of : Tm → List Tm → ℕ
place_of t [] = 0
place_of t (u ∷ us) = if same_term t u then 0 else suc (place_of t us)
