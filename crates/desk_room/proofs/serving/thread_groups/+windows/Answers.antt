use Rattle.std.proofs.Common.{map, ap, ◌∙◌, ◌≡◌, ◌++◌, ◌∷◌, [], rules}
use Rattle.std.proofs.lemmas.List.{map-append}
use Rattle.std.proofs.lemmas.Result.{IfOk-weaker}
use Rattle.desk_room.proofs.Joined.{reports_more, of_ok}
use Rattle.desk_room.proofs.serving.thread_groups.+windows.Goals as goal

pub returns : goal.returns
returns g t c =
    let s = c.scoped-mine.ensures in
    let front : c.args.windows.items ≡ c.pop.new.self.items ++ c.in-Some.window ∷ [] = search rules in
    IfOk-weaker _ (λ all. all.items ≡ c.in_ok-all.all.items ++ c.scoped-mine.result.0 ∷ []) _ (λ all is.
    reports_more _ c.pop.new.self.items _ (map (λ v. v.items) c.in-Some-split_last.rest.now) _ c.in_ok-all.all.items
    c.in-Some.window c.in-Some-split_last.input.now.items c.scoped-mine.result.0
    front (ap (map (λ v. v.items)) c.in-Some-split_last.ensures.cases.0 ∙ map-append _ _ _) is
    (of_ok _ _ _ s.1.1 c.in_ok-all.was) s.1.0) c.with_one-2.ensures
