use Rattle.std.proofs.Common.{◌∙◌, refl, sym}
use Rattle.mate_tree.proofs.WrittenLines.{says_cut, says_part}
use Rattle.mate_tree.proofs.writers.TreeWriter.push.Goals as goal

pub returns-then-is_cut : goal.returns-then-is_cut
returns-then-is_cut g c = record {
  brings = record {
    goes = says_cut (g.O.Write.contents c.args.self.now.out.now) c.args.self.now.sheet c.args.text.now (sym c.is_cut.ensures ∙ c.if-is_cut.true);
    stays = record { room = refl; memo = refl; out = refl };
  };
}

pub returns : goal.returns
returns g c = record {
  brings = record {
    goes = says_part c.args.self.now.sheet c.args.text.now c.is_empty.result (sym c.is_cut.ensures ∙ c.if-is_cut.false)
        c.part-shown.ensures c.is_empty.ensures c.pass.ensures c.show.ensures;
    stays = record { room = refl; memo = refl; out = refl };
  };
}
