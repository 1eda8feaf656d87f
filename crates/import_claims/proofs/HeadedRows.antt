-- What `verify --import` shows behind its first row.
use Rattle.std.proofs.Common.{◌≡◌, ◌∙◌, ◌++◌, ℕ, Bool, true, List, [], Option, Result, Ok, Err, IfErr, IfOk, ap, append_assoc, append-nil, inr, refl, sym}
use Rattle.std.proofs.KnownBytes.{Appends-trans}
use Rattle.std.specs.Io.KnownBytes.{Appends}
use Rattle.byte_streams.specs.Stops.{AppendsPart, is_of_output}
use Rattle.byte_streams.specs.declared.stops.Stop.{Stop}
use Rattle.byte_streams.specs.declared.stops.Stop.TheVariants as stop
use Rattle.file_answers.specs.Writing.{Gains, GainsPart}
use Rattle.problem_import.specs.declared.import_letters.ImportLetters.{ImportLetters}
use Rattle.import_claims.proofs.Unopened.{shows_none}
use Rattle.import_claims.specs.VerifiedImports.{Headed, ShowsRows, StopsHeaded, StopsRows, header_text}

gains_headed : (header : Bool) (Rows : List ℕ → Type 0) (old mid new : Option (List ℕ)) → Appends old mid (header_text header)
    → Gains Rows mid new → Gains (Headed header Rows) old new
gains_headed header Rows old mid new first gains = record {
  gained = header_text header ++ gains.gained;
  shows = (gains.gained, refl, gains.shows);
  appends = Appends-trans old mid new (header_text header) gains.gained first gains.appends;
}

part_behind : (old mid new : Option (List ℕ)) (gained text : List ℕ) → Appends old mid gained → AppendsPart mid new text
    → AppendsPart old new (gained ++ text)
part_behind old mid new gained text before (part, rest, is, on) =
    (gained ++ part, rest, ap (λ t. gained ++ t) is ∙ sym (append_assoc gained part rest), Appends-trans old mid new gained part before on)

gains_part_headed : (header : Bool) (Rows : List ℕ → Type 0) (old mid new : Option (List ℕ)) → Appends old mid (header_text header)
    → GainsPart Rows mid new → GainsPart (Headed header Rows) old new
gains_part_headed header Rows old mid new first gains = record {
  whole = header_text header ++ gains.whole;
  shows = (gains.whole, refl, gains.shows);
  appends = part_behind old mid new (header_text header) gains.whole first gains.appends;
}

stops_headed : (holds : List ℕ → Option (List ℕ)) (refuses : List ℕ → Type 0) (letters : ImportLetters) (bound : Option ℕ) (header : Bool) (from : ℕ)
    (names : List (List ℕ)) (s : Stop) (old mid new : Option (List ℕ)) → Appends old mid (header_text header)
    → StopsRows holds refuses letters bound from names s mid new → StopsHeaded holds refuses letters bound header from names s old new
stops_headed holds refuses letters bound header from names stop.NoMemory old mid new first stops =
    let gains = gains_headed header _ old mid new first stops in
    record { gained = gains.gained; shows = inr gains.shows; appends = gains.appends }
stops_headed holds refuses letters bound header from names stop.Unreadable old mid new first stops = gains_headed header _ old mid new first stops
stops_headed holds refuses letters bound header from names stop.Unwritable old mid new first stops = gains_part_headed header _ old mid new first stops
stops_headed holds refuses letters bound header from names stop.NoReader old mid new first stops = gains_part_headed header _ old mid new first stops

pub ok_headed : (holds : List ℕ → Option (List ℕ)) (letters : ImportLetters) (bound : Option ℕ) (header : Bool) (from : ℕ) (names : List (List ℕ))
    (result : Result Bool Stop)
    (old mid new : Option (List ℕ)) → Appends old mid (header_text header)
    → IfOk result (λ unsound. Gains (ShowsRows holds letters bound from names unsound) mid new)
    → IfOk result (λ unsound. Gains (Headed header (ShowsRows holds letters bound from names unsound)) old new)
ok_headed holds letters bound header from names (Ok unsound) old mid new first gains = gains_headed header _ old mid new first gains
ok_headed holds letters bound header from names (Err s) old mid new first gains = tt

pub err_headed : (holds : List ℕ → Option (List ℕ)) (refuses : List ℕ → Type 0) (letters : ImportLetters) (bound : Option ℕ) (header : Bool) (from : ℕ)
    (names : List (List ℕ)) (result : Result Bool Stop) (old mid new : Option (List ℕ)) → Appends old mid (header_text header)
    → IfErr result (λ s. StopsRows holds refuses letters bound from names s mid new)
    → IfErr result (λ s. StopsHeaded holds refuses letters bound header from names s old new)
err_headed holds refuses letters bound header from names (Ok unsound) old mid new first stops = tt
err_headed holds refuses letters bound header from names (Err s) old mid new first stops =
    stops_headed holds refuses letters bound header from names s old mid new first stops

-- Where the first row can't be written, a first part of it is.
pub stops_before : (holds : List ℕ → Option (List ℕ)) (refuses : List ℕ → Type 0) (letters : ImportLetters) (bound : Option ℕ) (header : Bool) (from : ℕ)
    (names : List (List ℕ)) (s : Stop) (old new : Option (List ℕ)) → is_of_output s ≡ true → AppendsPart old new (header_text header)
    → StopsHeaded holds refuses letters bound header from names s old new
stops_before holds refuses letters bound header from names stop.NoMemory old new broken part = cc
stops_before holds refuses letters bound header from names stop.Unreadable old new broken part = cc
stops_before holds refuses letters bound header from names stop.Unwritable old new broken part =
    record { whole = header_text header; shows = ([], sym (append-nil (header_text header)), shows_none holds letters bound from names); appends = part }
stops_before holds refuses letters bound header from names stop.NoReader old new broken part =
    record { whole = header_text header; shows = ([], sym (append-nil (header_text header)), shows_none holds letters bound from names); appends = part }
