-- What `clap` reads of the flags of the commands.
use Rattle.std.specs.Prelude.{codes}
use Rattle.clap.specs.Words.{Rule}
use Rattle.command_words.specs.CommandLine.{flag_rule, progress_rule}
use Rattle.command_words.specs.declared.flags.Flag.{Flag}
use Rattle.command_words.specs.declared.flags.Flag.TheVariants as flag

-- what is read of a flag
unfoldable pub rule_of_flag : Flag → Rule
rule_of_flag flag.Progress = progress_rule
rule_of_flag flag.Record = flag_rule (codes "record")
rule_of_flag flag.RecordFen = flag_rule (codes "fen")
rule_of_flag flag.Defences = flag_rule (codes "defences")
rule_of_flag flag.SetPlay = flag_rule (codes "set-play")
rule_of_flag flag.Tries = flag_rule (codes "tries")
rule_of_flag flag.Column = flag_rule (codes "column")
rule_of_flag flag.TreeFigurines = flag_rule (codes "figurines")
rule_of_flag flag.Solutions = flag_rule (codes "solutions")
rule_of_flag flag.Figurines = flag_rule (codes "figurines")
rule_of_flag flag.Header = flag_rule (codes "header")
rule_of_flag flag.Import = flag_rule (codes "import")
rule_of_flag flag.Json = flag_rule (codes "json")
rule_of_flag flag.MovesJson = flag_rule (codes "json")
rule_of_flag flag.Keep = flag_rule (codes "keep")
rule_of_flag flag.Board = flag_rule (codes "board")
rule_of_flag flag.Flip = flag_rule (codes "flip")
rule_of_flag flag.Svg = flag_rule (codes "svg")
rule_of_flag flag.Coordinates = flag_rule (codes "coordinates")
rule_of_flag flag.Fens = flag_rule (codes "fen")
rule_of_flag flag.Divide = flag_rule (codes "divide")
