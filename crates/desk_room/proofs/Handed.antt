-- A line that a submitter hands in: what its reply is, and what the submitter has handled then.
use Rattle.std.proofs.Common.{◌≡◌, ◌≢◌, ◌⊎◌, inl, inr, ℕ, ◌+◌, List, [], ◌∷◌, ◌++◌, Vec, Global, Result}
use Rattle.std.proofs.Common.{Ok, Err, OnOk, false, map, length, refl, ap, ◌∙◌, sym, subst, arith, Some}
use Rattle.std.proofs.lemmas.List.{length-map, map-append}
use Rattle.chess_notation.specs.Records.{RecordValue}
use Rattle.chess_notation.specs.Words.{is_blank}
use Rattle.chess_notation.specs.EpdFaults.{IsFaultOf}
use Rattle.chess_notation.specs.declared.epd_faults.EpdFault.{EpdFault}
use Rattle.chess_notation.specs.declared.epd_faults.EpdFault.TheVariants.{NoMemory}
use Rattle.text_lines.specs.Lines.{without_cr, lines_of}
use Rattle.text_lines.specs.Refusals.{fault_line}
use Rattle.text_lines.specs.Replies.{IsReply as IsReplyBy}
use Rattle.mate_answers.specs.InputReplies.{answer_line, IsLineReply, IsReply, RepliesGoOn, answered as is_answered, refused as is_refused}
use Rattle.room_ends.specs.Letters.{records}
use Rattle.desk_room.specs.Deliveries.{asked}
use Rattle.room_ends.specs.Windows.{letters_sent, collected, default_of, SameWindow}
use Rattle.room_ends.specs.WindowFaults.{SaysOnly, SaysKept}
use Rattle.desk_room.specs.inside.Submitters.{Progress, HasHandled, Reports}
use Rattle.room_ends.specs.declared.letters.Letter.TheVariants.{Record}
use Rattle.desk_room.specs.declared.serving.submitters.Submitter.{Submitter}
use Rattle.room_ends.specs.declared.windows.Window.{Window}
use Rattle.desk_room.proofs.LetterCounts.{records_append}
use Rattle.desk_room.proofs.Collecting.{moved, window_then}
use Rattle.desk_room.proofs.Progress.{progress_record, progress_refusal, progress_refusal_behind, handled_whole}

pub on_ok : {A E P Q : Type 0} (r : Result A E) → OnOk r P → (P → Q) → OnOk r Q
on_ok (Ok x) known more = more known
on_ok (Err e) known more = tt

answered_line : (default number : ℕ) (whole line : List ℕ) (r : RecordValue) → without_cr whole ≡ line
    → is_blank line ≡ false → SaysOnly line default r
    → IsLineReply default number (without_cr whole) (answer_line r) 0
answered_line default number whole line r is blank says =
    subst (λ l. IsLineReply default number l (answer_line r) 0) (sym is) (is_answered r blank says.0)

pub refused_line : (default number : ℕ) (whole line here : List ℕ) (fault : EpdFault) → without_cr whole ≡ line → is_blank line ≡ false
    → IsFaultOf line fault ⊎ ((fault ≡ NoMemory) × SaysKept line default) → fault ≢ NoMemory → here ≡ fault_line number fault
    → IsLineReply default number (without_cr whole) here 1
refused_line default number whole line here fault is blank (inl faulty) other text =
    subst (λ l. IsLineReply default number l here 1) (sym is)
    (subst (λ t. IsLineReply default number line t 1) (sym text) (is_refused fault blank faulty))
refused_line default number whole line here fault is blank (inr memory) other text = absurd (other memory.0)

-- What a submitter's lists would be with another window, text and texts behind.
abbrev pub HasLists : List (List ℕ) → Window → List ℕ → List (Vec ℕ Global) → ℕ → Type 0
HasLists lines w text pending refused =
    Progress (default_of w) lines (records (letters_sent w)) (map asked (collected w)) text (map (λ t. t.items) pending) refused

-- Nothing went by the window.
pub handled_same : (c : Submitter) (w : Window) (lines : List (List ℕ)) → SameWindow c.window w → collected w ≡ collected c.window
    → letters_sent w ≡ letters_sent c.window
    → HasHandled lines c → HasLists lines w c.text.items c.pending_replies.items c.refused
handled_same c w lines window got sent old =
    let items : List (Vec ℕ Global) → List (List ℕ) = map (λ t. t.items) in
    moved (default_of c.window) (default_of w) lines (records (letters_sent c.window)) (records (letters_sent w))
    (map asked (collected c.window)) (map asked (collected w))
    c.text.items c.text.items (items c.pending_replies.items) (items c.pending_replies.items) c.refused c.refused window.3
    (ap records sent) (ap (map asked) got) refl refl refl old

-- A record is sent, and nothing stands behind it yet.
pub handled_record : RepliesGoOn → (c : Submitter) (w : Window) (pending : List (Vec ℕ Global)) (lines : List (List ℕ))
    (whole line : List ℕ) (number : ℕ) (r : RecordValue) (none : Vec ℕ Global)
    → SameWindow c.window w → collected w ≡ collected c.window → letters_sent w ≡ letters_sent c.window ++ Record r ∷ []
    → pending ≡ c.pending_replies.items ++ none ∷ [] → none.items ≡ []
    → without_cr whole ≡ line → is_blank line ≡ false → SaysOnly line (default_of c.window) r
    → HasHandled lines c → HasLists (lines ++ whole ∷ []) w c.text.items pending c.refused
handled_record go_on c w pending lines whole line number r none window got sent more empty is blank says old =
    let items : List (Vec ℕ Global) → List (List ℕ) = map (λ t. t.items) in
    let more' : items pending ≡ items c.pending_replies.items ++ [] ∷ [] =
    ap items more ∙ (map-append (λ t. t.items) c.pending_replies.items (none ∷ []) ∙ ap (λ l. items c.pending_replies.items ++ l ∷ []) empty) in
    moved (default_of c.window) (default_of w) (lines ++ whole ∷ []) (records (letters_sent c.window) ++ r ∷ []) (records (letters_sent w))
    (map asked (collected c.window)) (map asked (collected w)) c.text.items c.text.items
    (items c.pending_replies.items ++ [] ∷ []) (items pending) c.refused c.refused
    window.3 (ap records sent ∙ records_append (letters_sent c.window) (Record r ∷ [])) (ap (map asked) got) refl more' refl
    (progress_record go_on (default_of c.window) c.refused lines whole (records (letters_sent c.window))
    (map asked (collected c.window)) r c.text.items (items c.pending_replies.items)
    (answered_line (default_of c.window) (length lines + 1) whole line r is blank says) old)

-- A refusal is written where nothing is awaited.
pub handled_refusal : RepliesGoOn → (c : Submitter) (text : List ℕ) (pending : List (Vec ℕ Global)) (lines : List (List ℕ)) (line here : List ℕ)
    → c.pending_replies.items ≡ [] → pending ≡ [] → text ≡ c.text.items ++ here
    → IsLineReply (default_of c.window) (length lines + 1) (without_cr line) here 1 → HasHandled lines c
    → HasLists (lines ++ line ∷ []) c.window text pending (c.refused + 1)
handled_refusal go_on c text pending lines line here none still more reply old =
    let items : List (Vec ℕ Global) → List (List ℕ) = map (λ t. t.items) in
    moved (default_of c.window) (default_of c.window) (lines ++ line ∷ []) (records (letters_sent c.window)) (records (letters_sent c.window))
    (map asked (collected c.window)) (map asked (collected c.window)) (c.text.items ++ here) text [] (items pending) (c.refused + 1) (c.refused + 1)
    refl refl refl more (ap items still) refl
    (progress_refusal go_on (default_of c.window) c.refused lines line here (records (letters_sent c.window))
    (map asked (collected c.window)) c.text.items reply
    (subst (λ l. Progress (default_of c.window) lines (records (letters_sent c.window))
    (map asked (collected c.window)) c.text.items l c.refused) (ap items none) old))

-- A refusal is written behind the last answer that is awaited.
pub handled_refusal_behind : RepliesGoOn → (c : Submitter) (texts front : List (Vec ℕ Global)) (replies after : Vec ℕ Global)
    (lines : List (List ℕ)) (line here : List ℕ)
    → c.pending_replies.items ≡ front ++ replies ∷ [] → texts ≡ front ++ after ∷ [] → after.items ≡ replies.items ++ here
    → IsLineReply (default_of c.window) (length lines + 1) (without_cr line) here 1 → HasHandled lines c
    → HasLists (lines ++ line ∷ []) c.window c.text.items texts (c.refused + 1)
handled_refusal_behind go_on c texts front replies after lines line here old_is new_is more reply old =
    let items : List (Vec ℕ Global) → List (List ℕ) = map (λ t. t.items) in
    let was : items c.pending_replies.items ≡ items front ++ replies.items ∷ [] = ap items old_is ∙ map-append (λ t. t.items) front (replies ∷ []) in
    let is : items texts ≡ items front ++ (replies.items ++ here) ∷ [] =
    ap items new_is ∙ (map-append (λ t. t.items) front (after ∷ []) ∙ ap (λ l. items front ++ l ∷ []) more) in
    moved (default_of c.window) (default_of c.window) (lines ++ line ∷ []) (records (letters_sent c.window)) (records (letters_sent c.window))
    (map asked (collected c.window)) (map asked (collected c.window)) c.text.items c.text.items
    (items front ++ (replies.items ++ here) ∷ []) (items texts) (c.refused + 1) (c.refused + 1)
    refl refl refl refl is refl
    (progress_refusal_behind go_on (default_of c.window) c.refused lines line here (records (letters_sent c.window))
    (map asked (collected c.window)) c.text.items replies.items (items front) reply
    (subst (λ l. Progress (default_of c.window) lines (records (letters_sent c.window))
    (map asked (collected c.window)) c.text.items l c.refused) was old))

-- All lines are handled, nothing is awaited, and the window said farewell.
pub reported : (w : Window) (c : Submitter) (v : Window) (input : List ℕ) → SameWindow w c.window → SameWindow c.window v
    → records (letters_sent v) ≡ records (letters_sent c.window)
    → collected v ≡ collected c.window → c.pending_replies.items ≡ [] → HasHandled (lines_of input) c
    → Reports w input (record { window = v; reply = Some (record { text = c.text; refused = c.refused }) })
unfolding IsReplyBy
reported w c v input before after sent got none handled =
    let items : List (Vec ℕ Global) → List (List ℕ) = map (λ t. t.items) in
    let whole : Progress (default_of c.window) (lines_of input) (records (letters_sent v)) (map asked (collected v)) c.text.items [] c.refused =
    moved (default_of c.window) (default_of c.window) (lines_of input) (records (letters_sent c.window))
    (records (letters_sent v)) (map asked (collected c.window)) (map asked (collected v))
    c.text.items c.text.items (items c.pending_replies.items) [] c.refused c.refused refl sent (ap (map asked) got) refl
    (sym (ap items none)) refl handled in record {
      window = window_then w c.window v before after;
      reply = record {
        as_many = omega (arith, whole.awaited, length-map (collected v) asked);
        reply = λ is. subst (λ d. IsReply d input c.text.items c.refused) (sym after.3) (handled_whole (default_of c.window)
            c.refused (lines_of input) (records (letters_sent v)) (map asked (collected v)) c.text.items whole is);
      };
    }
