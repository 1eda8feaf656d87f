-- Where the bound of a record comes from, by one line read with one bound for those that say none, or with two.
use Rattle.std.proofs.Common.{◌≡◌, ◌≢◌, ◌⊎◌, ℕ, Bool, true, false, List, [], ◌∷◌, Option, Some, None, if◌then◌else◌, inl, inr, refl, sym, ◌∙◌, subst}
use Rattle.std.specs.Option.{option_map_or}
use Rattle.chess_problems.specs.Problems.{bound_of}
use Rattle.chess_notation.specs.Claims.{claim_words, is_length, length_claimed, length_value}
use Rattle.chess_notation.specs.RecordLaws.{SaysOne}
use Rattle.chess_notation.specs.Records.{RecordValue, Reads, IsAskedBound, IsBoundOf}
use Rattle.mate_claims.specs.BoundSources.{ReadsClaimed, SaysBound}

-- Words claim a length, or their bound is the default one.
claims_or_not : (words : List (List ℕ))
    → ((default : ℕ) → length_claimed words default ≡ default) ⊎ ((n m : ℕ) → length_claimed words n ≡ length_claimed words m)
claims_or_not [] = inl (λ default. refl)
claims_or_not (word ∷ words) = by_word (is_length word) (bound_of (length_value word)) (claims_or_not words) where
  chosen : Bool → Option ℕ → ℕ → ℕ
  chosen first value default = if first then option_map_or (λ bound. bound) value default else length_claimed words default

  by_word : (first : Bool) (value : Option ℕ)
      → ((default : ℕ) → length_claimed words default ≡ default) ⊎ ((n m : ℕ) → length_claimed words n ≡ length_claimed words m)
      → ((default : ℕ) → chosen first value default ≡ default) ⊎ ((n m : ℕ) → chosen first value n ≡ chosen first value m)
  by_word true (Some bound) rest = inr (λ n m. refl)
  by_word true None rest = inl (λ default. refl)
  by_word false value rest = rest

-- A line that asks for a bound by `dm` says the same record whichever the default one is.
asked_by_line : (line : List ℕ) (default other : ℕ) (r : RecordValue) (reads : Reads line default r) → IsAskedBound reads.operations r.bound
    → Reads line other r
asked_by_line line default other r reads asked = record {
  short = reads.short;
  printable = reads.printable;
  fields = reads.fields;
  tail = reads.tail;
  operations = reads.operations;
  words = reads.words;
  position = reads.position;
  sound = reads.sound;
  spelt = reads.spelt;
  once = reads.once;
  bound = inr asked;
  avoid = reads.avoid;
  kept = reads.kept;
}

-- A record whose bound isn't the default one has it of its line.
pub said_by_line : (line : List ℕ) (default : ℕ) (r : RecordValue) → ReadsClaimed line default r → r.bound ≢ default → SaysBound line r
said_by_line line default r reads other = λ taken. by_bound taken (claims_or_not (claim_words line)) reads.bound where
  by_bound : (taken : ℕ)
      → ((d : ℕ) → length_claimed (claim_words line) d ≡ d) ⊎ ((n m : ℕ) → length_claimed (claim_words line) n ≡ length_claimed (claim_words line) m)
      → IsBoundOf reads.operations (length_claimed (claim_words line) default) r.bound → ReadsClaimed line taken r
  by_bound taken either (inr asked) =
      asked_by_line line (length_claimed (claim_words line) default) (length_claimed (claim_words line) taken) r reads asked
  by_bound taken (inl same) (inl none) = absurd (other (none.1 ∙ same default))
  by_bound taken (inr same) (inl none) = subst (λ d. Reads line d r) (same default taken) reads

-- Read once more with another default one, it has the same bound.
pub said_again : SaysOne → (line : List ℕ) (default other : ℕ) (r again : RecordValue) → ReadsClaimed line default r → ReadsClaimed line other again
    → again.bound ≡ default → other ≢ default → SaysBound line r
said_again one line default other r again reads more bound differs =
    let said = said_by_line line other again more (λ same. differs (sym same ∙ bound)) in
    subst (SaysBound line) (one line (length_claimed (claim_words line) default) again r (said default) reads) said
