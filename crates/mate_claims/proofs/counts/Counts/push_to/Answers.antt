use Rattle.std.proofs.Common.{◌≡◌, ◌++◌, ℕ, List, append_assoc, codes, string_bytes}
use Rattle.mate_claims.specs.Counts.{count_text, counts_text, some_text}
use Rattle.mate_claims.proofs.counts.Counts.push_to.Goals as goal

pushed : (old a b c d e f g h i j k o p q s t u v w x y new : List ℕ) → o ≡ old ++ a → p ≡ o ++ b → q ≡ p ++ c → s ≡ q ++ d → t ≡ s ++ e
    → u ≡ t ++ f → v ≡ u ++ g → w ≡ v ++ h → x ≡ w ++ i → y ≡ x ++ j → new ≡ y ++ k
    → new ≡ old ++ (a ++ b ++ c ++ d ++ e ++ f ++ g ++ h ++ i ++ j ++ k)
pushed old a b c d e f g h i j k o p q s t u v w x y new one two three four five six seven eight nine ten all =
    rw (all, ten, nine, eight, seven, six, five, four, three, two, one) (simp append_assoc)

pub returns : goal.returns
unfolding counts_text
returns c =
    let counts = c.args.self.now in
    pushed (string_bytes c.args.text.now) (count_text (codes "sound ") counts.sound) (count_text (codes ", several ") counts.several)
    (count_text (codes ", unclaimed ") counts.unclaimed)
    (count_text (codes ", cooked ") counts.cooked) (count_text (codes ", wrong ") counts.wrong) (count_text (codes ", short ") counts.short)
    (count_text (codes ", unsolvable ") counts.unsolvable) (count_text (codes ", unsolved ") counts.unsolved)
    (count_text (codes ", refused ") counts.refused)
    (some_text counts.unnumbered (codes " without a number of moves")) (some_text counts.undecided (codes " not decided"))
    (string_bytes c.push_count.new.text) (string_bytes c.push_count-2.new.text) (string_bytes c.push_count-3.new.text)
    (string_bytes c.push_count-4.new.text) (string_bytes c.push_count-5.new.text) (string_bytes c.push_count-6.new.text)
    (string_bytes c.push_count-7.new.text) (string_bytes c.push_count-8.new.text) (string_bytes c.push_count-9.new.text)
    (string_bytes c.push_some.new.text) (string_bytes c.push_some-2.new.text)
    c.in_ok-push_count.ensures c.in_ok-push_count-2.ensures
    c.in_ok-push_count-3.ensures c.in_ok-push_count-4.ensures c.in_ok-push_count-5.ensures c.in_ok-push_count-6.ensures
    c.in_ok-push_count-7.ensures c.in_ok-push_count-8.ensures c.in_ok-push_count-9.ensures c.in_ok-push_some.ensures
    c.in_ok-push_some-2.ensures
