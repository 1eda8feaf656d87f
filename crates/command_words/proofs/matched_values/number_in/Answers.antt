use Rattle.std.proofs.Common.{◌∙◌, ap, Option}
use Rattle.std.specs.Option.{option_map_or}
use Rattle.std.specs.Str.Parse.{ParsesUnsigned, ExplainsUnsignedError, HasUnsignedDigitsIfOk}
use Rattle.clap.specs.Words.{Text, found_of, one_text}
use Rattle.clap.specs.Walk.{byte_or_zero}
use Rattle.clap.proofs.WalkLemmas.{one_text-rows}
use Rattle.command_words.proofs.Numbers.{number_read}
use Rattle.command_words.proofs.matched_values.number_in.Goals as goal

pub returns : goal.returns
returns c =
    let f = found_of c.args.matches.now in
    let id = c.args.id.now in
    c.unwrap_or.ensures
    ∙ number_read (λ bs r. ParsesUnsigned 8 10 bs r × ExplainsUnsignedError 10 bs r × HasUnsignedDigitsIfOk bs r) (λ bs r g. g.0)
    (one_text f id) c.get_one.result c.get_one.ensures.none c.get_one.ensures.value
    ∙ ap (λ (t : Option Text). option_map_or byte_or_zero t 0) (one_text-rows f id)
