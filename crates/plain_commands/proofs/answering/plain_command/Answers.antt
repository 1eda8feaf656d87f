use Rattle.std.proofs.Common.{◌≡◌, ◌∙◌, Bor, None, ap, arith, map, subst, sym}
use Rattle.std.proofs.KnownBytes.{Keeps-refl}
use Rattle.std.specs.Io.KnownBytes.{Keeps}
use Rattle.std.specs.String.{string_bytes}
use Rattle.clap.specs.Words.{Text}
use Rattle.command_words.specs.Asked.{asked, asked_exactly}
use Rattle.command_words.specs.LineCommands.{given}
use Rattle.plain_commands.proofs.Endings.{ends_unasked}
use Rattle.plain_commands.proofs.answering.plain_command.Goals as goal

pub returns-in_default-clause-ends : goal.returns-in_default-clause-ends
returns-in_default-clause-ends g c =
    ends_unasked c.solves_none.ensures c.limited_none.ensures c.tells_none.ensures _ _ _ c.no_memory.result
    (g.O.Write.contents c.args.out.now) (g.O.Write.contents c.args.out.now)
    (λ is. absurd (omega (arith, is, c.no_memory.ensures))) (omega (arith, c.no_memory.ensures))
    (λ other. absurd (other c.no_memory.ensures)) (λ _. Keeps-refl (g.O.Write.contents c.args.out.now))

pub returns-clause-ends : goal.returns-clause-ends
returns-clause-ends g c =
    let words = map string_bytes c.args.words.now in
    let same : map (λ (s : Bor Text). s.now) c.as_slice.result.now ≡ given words =
    ap (map (λ (s : Bor Text). s.now)) c.as_slice.ensures.value ∙ c.in-Ok.ensures in
    ends_unasked c.solves_none.ensures c.limited_none.ensures c.tells_none.ensures _ _ (asked words) c.usage.result
    (g.O.Write.contents c.args.out.now) (g.O.Write.contents c.usage.new.out)
    c.usage.ensures.no_refusal c.usage.ensures.bounded
    (λ other. subst (λ texts. asked_exactly texts ≡ None) same (c.in-Err.ensures.err (λ memory. other (c.usage.ensures.memory memory))))
    (λ unsaid. subst (λ out. Keeps (g.O.Write.contents c.args.out.now) (g.O.Write.contents out))
    (sym (c.usage.ensures.kept unsaid)) (Keeps-refl (g.O.Write.contents c.args.out.now)))
