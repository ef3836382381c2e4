-- What each line of a certificate needs and gives, as relations with one rule a kind of line. `Proving` computes the same.
use Rattle.std.specs.Prelude.{◌≡◌, ◌↔◌, ℕ, zero, suc, ◌+◌, ℤ, pos, int_le, int_lt, Bool, true, false, nat_eq, List, [], ◌∷◌, ◌++◌, length, Some, None}
use Rattle.fst_base.specs.Sorts.{s_unit, same_sort}
use Rattle.fst_base.specs.Values.{same_bool}
use Rattle.fst_terms.specs.Terms.{Tm, t_bool, t_unit, listed}
use Rattle.fst_terms.specs.Formulas.{sort_of}
use Rattle.fst_terms.specs.Same.{same_term, is_among}
use Rattle.fst_terms.specs.Flats.{Flt, truth_of}
use Rattle.fst_terms.specs.declared.flat.Mark.{Mark}
use Rattle.fst_terms.specs.declared.flat.Mark.TheVariants as mark
use Rattle.fst_terms.specs.Skeletons.{args_of, arg_of, rest_of}
use Rattle.fst_terms.specs.DataFacts.{is_int}
use Rattle.fst_terms.specs.Rows.{Rw, combined, is_wide}
use Rattle.fst_terms.specs.Linear.{Ineq, row_of, is_wide_ineq, is_constant}
use Rattle.fst_terms.specs.Marks.{Marking, at_number, term_number, var_sorts, is_equation, is_at_most, is_int_equation, reads, equation_ineqs, mark_ineqs}
use Rattle.fst_terms.specs.Branches.{same_constructor, differ, pair_at}
use Rattle.fst_cert.specs.declared.line.Line.{Line}
use Rattle.fst_cert.specs.declared.line.Line.TheVariants as line
use Rattle.fst_cert.specs.Proving.{Mk, Eqn, eqn, is_eqn, Owed, owed_all, owed_shares, owed_marks, owed_branch, owed_close, owe_shares, owe_marks, marked, marking_of, are_reasons, one_head, has_marks, may_mark, is_false_mark, after_line, refused_line, Proves}

-- the list has this at this number, counted from 1
abbrev pub At : {A : Type 0} → List A → ℕ → A → Type 0
At xs n x = at_number xs n ≡ Some x

-- ---- equation lines

pub data GivesEquation (f : Flt) (look : Marking) (es : List Eqn) : Line → Eqn → Type 0 where
  -- an equation that is marked true; another marked atom but an order equals its truth value
  by_true : (a : ℕ) (t : Tm) (m : Mark) → At f.atoms a t → look a ≡ Some m → is_equation t ≡ true → truth_of m ≡ true → GivesEquation f look es (line.Given a) (eqn (arg_of t) (rest_of t))
  by_mark : (a : ℕ) (t : Tm) (m : Mark) → At f.atoms a t → look a ≡ Some m → is_equation t ≡ false → is_at_most t ≡ false → GivesEquation f look es (line.Given a) (eqn t (t_bool (truth_of m)))
  -- an equation turned round; two in a row
  by_flip : (i : ℕ) (e : Eqn) → At es i e → GivesEquation f look es (line.Flip i) (eqn e.right e.left)
  by_chain : (i j : ℕ) (d e : Eqn) → At es i d → At es j e → same_term d.right e.left ≡ true → GivesEquation f look es (line.Chain i j) (eqn d.left e.right)
  -- two terms of one head and one sort, with a reason for each two arguments
  by_same : (t u : ℕ) (ns : List ℕ) (x y : Tm) → At f.terms t x → At f.terms u y → one_head x y ≡ true → are_reasons es ns (args_of x) (args_of y) ≡ true → GivesEquation f look es (line.Same t u ns) (eqn x y)
  -- a part of two terms of one constructor
  by_part : (i k : ℕ) (e : Eqn) (x y : Tm) → At es i e → At (listed (args_of e.left)) k x → At (listed (args_of e.right)) k y → same_constructor e.left e.right ≡ true → GivesEquation f look es (line.Part i k) (eqn x y)
  -- a term equals the numbered pair of its components; a unit term equals ()
  by_eta : (t : ℕ) (x p : Tm) → At f.terms t x → pair_at (sort_of (var_sorts f) x) x ≡ Some p → is_among p f.terms ≡ true → GivesEquation f look es (line.Eta t) (eqn x p)
  by_unit : (t : ℕ) (x : Tm) → At f.terms t x → same_sort (sort_of (var_sorts f) x) s_unit ≡ true → GivesEquation f look es (line.Unit t) (eqn x t_unit)

-- ---- row lines

pub data GivesRow (f : Flt) (look : Marking) (es : List Eqn) (rows : List Rw) : Line → Rw → Type 0 where
  -- a row of a marked atom that isn't wide
  by_atom : (a k : ℕ) (t : Tm) (m : Mark) (d : Ineq) → At f.atoms a t → look a ≡ Some m → At (mark_ineqs (var_sorts f) t m) k d → is_wide_ineq (term_number f) d ≡ false → GivesRow f look es rows (line.Atom a k) (row_of (term_number f) d)
  -- one of an equation of ints
  by_equal : (i k : ℕ) (e : Eqn) (d : Ineq) → At es i e → is_int (sort_of (var_sorts f) e.left) ≡ true → At (equation_ineqs mark.True e.left e.right) k d → is_wide_ineq (term_number f) d ≡ false → GivesRow f look es rows (line.Equal i k) (row_of (term_number f) d)
  -- the tightened sum of two rows, with multipliers of at least 1, that isn't wide
  by_add : (p q : ℤ) (i j : ℕ) (a b : Rw) → At rows i a → At rows j b → int_le (pos 1) p ≡ true → int_le (pos 1) q ≡ true → is_wide p a q b ≡ false → GivesRow f look es rows (line.Add p i q j) (combined p a q b)

-- ---- verdict lines

pub data IsVerdict (f : Flt) (look : Marking) (es : List Eqn) (rows : List Rw) : Line → Type 0 where
  by_differ : (i : ℕ) (e : Eqn) → At es i e → differ e.left e.right ≡ true → IsVerdict f look es rows (line.Differ i)
  by_unequal : (a i : ℕ) (t : Tm) (m : Mark) (e : Eqn) → At f.atoms a t → is_equation t ≡ true → look a ≡ Some m → truth_of m ≡ false → At es i e → is_eqn (arg_of t) (rest_of t) e ≡ true → IsVerdict f look es rows (line.Unequal a i)
  by_below : (i : ℕ) (r : Rw) → At rows i r → is_constant r ≡ true → int_lt r.constant (pos 0) ≡ true → IsVerdict f look es rows (line.Below i)

-- ---- lines of a branch

pub data InBranch (f : Flt) (ended : List (List Mk)) (ms : List Mk) : Line → List Owed → Type 0 where
  by_split : (a : ℕ) (t : Tm) → At f.atoms a t → marking_of ms a ≡ None → InBranch f ended ms (line.Split a) (owed_branch ended (marked a mark.True ms) ∷ owed_branch ended (marked a mark.False ms) ∷ [])
  by_order : (a : ℕ) (t : Tm) (m : Mark) → At f.atoms a t → is_int_equation (var_sorts f) t ≡ true → marking_of ms a ≡ Some m → is_false_mark m ≡ true → InBranch f ended ms (line.Order a) (owed_branch ended (marked a mark.Less ms) ∷ owed_branch ended (marked a mark.Greater ms) ∷ [])
  by_hyp : (k : ℕ) (phi : Tm) (b : Bool) → At f.formulas k phi → reads f (marking_of ms) phi ≡ Some b → same_bool false b ≡ true → InBranch f ended ms (line.Hyp k) []
  by_done : (b : Bool) → reads f (marking_of ms) f.goal ≡ Some b → same_bool true b ≡ true → InBranch f ended ms line.Done []
  by_close : (e r : ℕ) → InBranch f ended ms (line.Close e r) (owed_close ms e r [] [] ∷ [])
  by_use : (i : ℕ) (ns : List Mk) → At ended i ns → has_marks (marking_of ms) ns ≡ true → InBranch f ended ms (line.Use i) []

-- ---- what is owed after a line

pub data After (f : Flt) : Owed → Line → List Owed → Type 0 where
  after_shared : (n : ℕ) → After f owed_all (line.Shared n) (owe_shares n [])
  after_first : (l : Line) (os : List Owed) → InBranch f [] [] l os → After f owed_all l os
  after_share : (n i m : ℕ) (ended : List (List Mk)) → nat_eq i (length ended + 1) ≡ true → After f (owed_shares n ended) (line.Share i m) (owe_marks m n ended [])
  after_marked : (k n a : ℕ) (m : Mark) (ended : List (List Mk)) (ms : List Mk) (t : Tm) → At f.atoms a t → marking_of ms a ≡ None → may_mark (var_sorts f) t m ≡ true
      → After f (owed_marks k n ended ms) (line.Marked a m) (owe_marks k n ended (marked a m ms))
  after_branch : (ended : List (List Mk)) (ms : List Mk) (l : Line) (os : List Owed) → InBranch f ended ms l os → After f (owed_branch ended ms) l os
  after_equation : (ms : List Mk) (e r : ℕ) (es : List Eqn) (rows : List Rw) (l : Line) (d : Eqn) → GivesEquation f (marking_of ms) es l d → After f (owed_close ms (suc e) r es rows) l (owed_close ms e r (es ++ d ∷ []) rows ∷ [])
  after_row : (ms : List Mk) (r : ℕ) (es : List Eqn) (rows : List Rw) (l : Line) (a : Rw) → GivesRow f (marking_of ms) es rows l a → After f (owed_close ms zero (suc r) es rows) l (owed_close ms zero r es (rows ++ a ∷ []) ∷ [])
  after_verdict : (ms : List Mk) (es : List Eqn) (rows : List Rw) (l : Line) → IsVerdict f (marking_of ms) es rows l → After f (owed_close ms zero zero es rows) l []

-- ---- whole proofs

-- the lines discharge what is owed
pub data Discharges (f : Flt) : List Owed → List Line → Type 0 where
  no_more : Discharges f [] []
  one_more : (o : Owed) (os more : List Owed) (l : Line) (ls : List Line) → After f o l more → Discharges f (more ++ os) ls → Discharges f (o ∷ os) (l ∷ ls)

-- the first line that doesn't hold comes after so many that do: it follows no rule, or nothing is owed any more, or it is missing
pub data FailsAt (f : Flt) : List Owed → List Line → ℕ → Type 0 where
  superfluous : (l : Line) (ls : List Line) → FailsAt f [] (l ∷ ls) zero
  missing : (o : Owed) (os : List Owed) → FailsAt f (o ∷ os) [] zero
  refused : (o : Owed) (os : List Owed) (l : Line) (ls : List Line) → ((more : List Owed) → After f o l more → ⊥) → FailsAt f (o ∷ os) (l ∷ ls) zero
  later : (o : Owed) (os more : List Owed) (l : Line) (ls : List Line) (n : ℕ) → After f o l more → FailsAt f (more ++ os) ls n → FailsAt f (o ∷ os) (l ∷ ls) (suc n)

-- the function computes the relation: a line holds where a rule gives what is owed after it, a proof proves where its lines discharge it, and
-- the refused line is the first that doesn't hold
pub record RulesLaw : Type 0 where
  pub lines : (f : Flt) (o : Owed) (l : Line) (os : List Owed) → After f o l os ↔ (after_line f o l ≡ Some os)
  pub proofs : (f : Flt) (ls : List Line) → Proves f ls ↔ Discharges f (owed_all ∷ []) ls
  pub refusals : (f : Flt) (ls : List Line) (n : ℕ) → FailsAt f (owed_all ∷ []) ls n ↔ (refused_line f ls 1 ≡ Some (n + 1))
