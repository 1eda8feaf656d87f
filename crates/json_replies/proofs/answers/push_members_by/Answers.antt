use Rattle.std.proofs.Common.{◌≡◌, ◌∙◌, ◌++◌, ℕ, Bool, List, ap, append_assoc, codes, drop, flat_map, map}
use Rattle.json_replies.specs.Answers.{mate_member, members_by, other_member}
use Rattle.json_replies.proofs.answers.push_members_by.Goals as goal

written : (old mid opened new others rest : List ℕ) (keys : Bool) (operations : List (List ℕ))
    → mid ≡ old ++ flat_map (mate_member keys) operations → opened ≡ mid ++ codes ",\"operations\":{" → rest ≡ drop 1 others
    → others ≡ flat_map (other_member keys) operations → new ≡ opened ++ rest → new ≡ old ++ members_by keys operations
unfolding members_by
written old mid opened new others rest keys operations one two three four five =
    five ∙ ap (λ t. t ++ rest) (two ∙ ap (λ t. t ++ codes ",\"operations\":{") one)
    ∙ ap (λ t. ((old ++ flat_map (mate_member keys) operations) ++ codes ",\"operations\":{") ++ t) (three ∙ ap (λ (t : List ℕ). drop 1 t) four)
    ∙ append_assoc (old ++ flat_map (mate_member keys) operations) (codes ",\"operations\":{") (drop 1 (flat_map (other_member keys) operations))
    ∙ append_assoc old (flat_map (mate_member keys) operations)
    (codes ",\"operations\":{" ++ drop 1 (flat_map (other_member keys) operations))

pub returns : goal.returns
returns c = written _ _ _ _ _ _ c.args.keys (map (λ o. o.now) c.args.operations.now) c.in_ok-push_mate.ensures
    c.in_ok-extend_from_slice.ensures.items (c.without_first.ensures ∙ ap (λ (t : List ℕ). drop 1 t) c.as_slice.ensures.value)
    c.in_ok-others.ensures c.in_ok-extend_from_slice-2.ensures.items
