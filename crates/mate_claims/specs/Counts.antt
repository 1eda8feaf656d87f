-- How many lines came to which verdict, and of how many the number of moves is the default one.
use Rattle.std.specs.Prelude.{ℕ, ◌+◌, ◌-◌, ◌==◌, List, [], ◌++◌, Bool, codes, decimal, min, Option, Some, None, if◌then◌else◌}
use Rattle.mate_claims.specs.declared.bound_sources.BoundSource.{BoundSource}
use Rattle.mate_claims.specs.declared.bound_sources.BoundSource.TheVariants.{Default}
use Rattle.mate_claims.specs.declared.claim_verdicts.ClaimVerdict.{ClaimVerdict}
use Rattle.mate_claims.specs.declared.claim_verdicts.ClaimVerdict.TheVariants.{Sound, Several, Unclaimed, Cooked, Wrong, Short, Unsolvable, Unsolved, Undecided}
use Rattle.mate_claims.specs.declared.counts.Counts.{Counts}

abbrev pub no_counts : Counts
no_counts = record {
  sound = 0;
  several = 0;
  unclaimed = 0;
  cooked = 0;
  wrong = 0;
  short = 0;
  unsolvable = 0;
  unsolved = 0;
  undecided = 0;
  refused = 0;
  unnumbered = 0;
}

-- how many lines came to this verdict, or were refused; what was not decided is counted whatever is amiss with it
abbrev pub count_of : Option ClaimVerdict → Counts → ℕ
count_of (Some Sound) c = c.sound
count_of (Some Several) c = c.several
count_of (Some Unclaimed) c = c.unclaimed
count_of (Some Cooked) c = c.cooked
count_of (Some Wrong) c = c.wrong
count_of (Some Short) c = c.short
count_of (Some Unsolvable) c = c.unsolvable
count_of (Some Unsolved) c = c.unsolved
count_of (Some Undecided) c = 0
count_of None c = c.refused

abbrev pub with_count : Option ClaimVerdict → ℕ → Counts → Counts
with_count (Some Sound) count c = record c { sound = count }
with_count (Some Several) count c = record c { several = count }
with_count (Some Unclaimed) count c = record c { unclaimed = count }
with_count (Some Cooked) count c = record c { cooked = count }
with_count (Some Wrong) count c = record c { wrong = count }
with_count (Some Short) count c = record c { short = count }
with_count (Some Unsolvable) count c = record c { unsolvable = count }
with_count (Some Unsolved) count c = record c { unsolved = count }
with_count (Some Undecided) count c = c
with_count None count c = record c { refused = count }

-- one record more whose number of moves comes from there
abbrev pub with_source : Option BoundSource → Counts → Counts
with_source (Some Default) c = record c { unnumbered = c.unnumbered + 1 }
with_source _ c = c

-- one line more: of this verdict, or refused; and of a record where its number of moves comes from
abbrev pub with_one : Option ClaimVerdict → Option BoundSource → Counts → Counts
with_one verdict source c = with_source source (with_count verdict (count_of verdict c + 1) c)

-- a record that was decided or not
abbrev pub with_decided : Bool → Counts → Counts
with_decided decided c = if decided then c else (record c { undecided = c.undecided + 1 })

-- one line more, decided or not
abbrev pub with_line : Option ClaimVerdict → Option BoundSource → Bool → Counts → Counts
with_line verdict source decided c = with_decided decided (with_one verdict source c)

-- so many refused lines more, as far as a count goes
abbrev pub with_refusals : ℕ → Counts → Counts
with_refusals count c = record c { refused = min (c.refused + count) 18446744073709551615 }

-- how many are known not to be sound
abbrev pub not_sound_in : Counts → ℕ
not_sound_in c = c.several + c.unclaimed + c.cooked + c.wrong + c.short + c.unsolvable + c.unsolved + c.refused

-- with what is missing of so many lines that aren't sound, since there were so many before
abbrev pub with_unread : ℕ → ℕ → Counts → Counts
with_unread before unsound c = with_refusals (unsound - (min (not_sound_in c) 18446744073709551615 - before)) c

-- a count behind its name
abbrev pub count_text : List ℕ → ℕ → List ℕ
count_text name count = name ++ decimal count

-- how many there are of this kind, where there are any
abbrev pub some_text : ℕ → List ℕ → List ℕ
some_text count kind = if count == 0 then [] else count_text (codes "; ") count ++ kind

unfoldable pub counts_text : Counts → List ℕ
counts_text c = count_text (codes "sound ") c.sound ++ count_text (codes ", several ") c.several
    ++ count_text (codes ", unclaimed ") c.unclaimed ++ count_text (codes ", cooked ") c.cooked ++ count_text (codes ", wrong ") c.wrong
    ++ count_text (codes ", short ") c.short ++ count_text (codes ", unsolvable ") c.unsolvable ++ count_text (codes ", unsolved ") c.unsolved
    ++ count_text (codes ", refused ") c.refused
    ++ some_text c.unnumbered (codes " without a number of moves") ++ some_text c.undecided (codes " not decided")
