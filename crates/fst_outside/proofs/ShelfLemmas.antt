-- What a shelf in memory answers.
use Rattle.std.proofs.Common.{◌≡◌, ℕ, ◌==◌, Bool, true, false, List, Result, Err, length, sym, ◌∙◌, inl, inr, ◌⊎◌}
use Rattle.std.proofs.lemmas.Bool.{cond-true, cond-false}
use Rattle.std.specs.List.{list_any}
use Rattle.fst_outside.specs.declared.fault.FetchFault.{FetchFault}
use Rattle.fst_outside.specs.declared.fault.FetchFault.TheVariants.{Failed, NoMemory}
use Rattle.fst_outside.specs.Memory.{ShelfState, bytes_of, held_up_to, answer}

module _ (s : ShelfState) (name : List ℕ) (limit number : ℕ) (names : List (List ℕ)) (numbers : List ℕ) (listed : Bool)
    (number_is : number ≡ length names) (names_are : names ≡ s.fetched) (numbers_are : numbers ≡ s.failing)
    (listed_is : listed ≡ list_any (λ n. n == number) numbers) where
  test : list_any (λ n. n == length s.fetched) s.failing ≡ listed
  test = rw (← numbers_are, ← names_are, ← number_is) (sym listed_is)

  pub answer-listed : listed ≡ true → Err Failed ≡ answer s name limit
  answer-listed e = sym (cond-true _ _ _ (test ∙ e))

  pub answer-held : (result : Result (List ℕ) FetchFault) → listed ≡ false
      → (result ≡ Err NoMemory) ⊎ (result ≡ held_up_to limit (bytes_of s.files name)) → (result ≡ Err NoMemory) ⊎ (result ≡ answer s name limit)
  answer-held result e (inl none) = inl none
  answer-held result e (inr is) = inr (is ∙ sym (cond-false _ _ _ (test ∙ e)))
