-- What is written before a file is opened: nothing.
use Rattle.std.proofs.Common.{ℕ, Bool, List, [], Option}
use Rattle.std.specs.Bool.{⊤}
use Rattle.file_answers.specs.FileAnswers.{AnswersFirst}
use Rattle.file_answers.proofs.Unopened.{answers_none, no_reply_on}
use Rattle.file_verifying.specs.Verified.{claim_replies, first_claim_replies, first_limited_claim_replies, has_several, limited_claim_replies}

pub no_claim_reply : (several : Bool) (bound from : ℕ) (name input : List ℕ) → first_claim_replies several bound from name input []
no_claim_reply several bound from name input = no_reply_on _ from input

pub no_limited_reply : (stops : Type 0) (several : Bool) (bound from : ℕ) (name input : List ℕ) → first_limited_claim_replies stops several bound from name input []
no_limited_reply stops several bound from name input = no_reply_on _ from input

pub verifies_none : (holds : List ℕ → Option (List ℕ)) (bound from : ℕ) (names : List (List ℕ)) → AnswersFirst holds
    (claim_replies (has_several names) bound) (first_claim_replies (has_several names) bound) from names (λ _. ⊤) []
verifies_none holds bound from names = answers_none holds _ _ from names (no_claim_reply (has_several names) bound)

pub limited_none : (holds : List ℕ → Option (List ℕ)) (stops : Type 0) (bound from : ℕ) (names : List (List ℕ)) → AnswersFirst holds
    (limited_claim_replies stops (has_several names) bound) (first_limited_claim_replies stops (has_several names) bound) from names (λ _. ⊤) []
limited_none holds stops bound from names = answers_none holds _ _ from names (no_limited_reply stops (has_several names) bound)
