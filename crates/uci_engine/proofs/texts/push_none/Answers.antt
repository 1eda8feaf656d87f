use Rattle.std.proofs.Common.{◌++◌, ap, sym, ◌∙◌}
use Rattle.std.specs.Prelude.{codes, decimal}
use Rattle.uci_engine.proofs.WrittenLines.{first, on, some_none}
use Rattle.uci_engine.proofs.texts.push_none.Goals as goal

pub returns : goal.returns
returns c =
    let old = c.args.text.now.items in
    let told = codes "info string no mate in " in
    on old c.push_count.new.text.items _ (told ++ decimal c.args.moves) (codes "\n")
    (first old c.push_count.new.text.items told (decimal c.args.moves) c.in_ok-push_count.ensures) c.in_ok-push-2.ensures
    ∙ ap (λ t. old ++ t) (sym (some_none c.args.moves c.if-moves-eq0.false))
