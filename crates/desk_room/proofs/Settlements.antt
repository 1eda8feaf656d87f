-- What a window and the keeper find when they meet.
use Rattle.std.proofs.Common.{◌≡◌, ◌<◌, ℕ, zero, suc, ◌==◌, true, List, [], ◌∷◌, ◌++◌, length, map, set, get_or, refl, ap, ◌∙◌, arith}
use Rattle.std.proofs.Common.{Option, Some, None, IfSome, subst, length-append, append-nil}
use Rattle.std.proofs.lemmas.List.{length-map}
use Rattle.std.proofs.lemmas.Bool.Decides.{nat_tests}
use Rattle.std.specs.List.{list_all}
use Rattle.chess_notation.specs.Records.{RecordValue}
use Rattle.text_lines.specs.declared.replies.Output.{Output}
use Rattle.mate_desk.specs.Content.{Content, QueueValue, EntryValue}
use Rattle.mate_desk.specs.Calls.{is_drained}
use Rattle.mate_jobs.specs.declared.deliveries.Delivery.{Delivery}
use Rattle.room_ends.specs.Letters.{records}
use Rattle.room_ends.specs.Windows.{letters_sent, collected}
use Rattle.desk_room.specs.Deliveries.{asked}
use Rattle.desk_room.specs.inside.Submitters.{IsReplyIf}
use Rattle.desk_room.specs.inside.Threads.{IsSettled}
use Rattle.desk_room.specs.declared.serving.window_thread.Report.{Report}
use Rattle.desk_room.specs.Kept.{asked_of, owed, EachIsMarked}
use Rattle.desk_room.specs.Withdrawals.{marks, are_notices_marked}
use Rattle.desk_room.specs.Turns.{pending_at}
use Rattle.room_ends.specs.declared.letters.Letter.{Letter}
use Rattle.desk_room.proofs.Places.{nil_append, head_is, tail_is, at_same}
use Rattle.desk_room.proofs.Tests.{and_both}
use Rattle.desk_room.proofs.LetterCounts.{records_append}

-- at the window's number
pub at_number : {A B : Type 0} (f : A → B) (xs : List A) (n m : ℕ) (x : A) (d : B) → m ≡ n → n < length xs → get_or (map f (set xs n x)) m d ≡ f x
at_number f xs n m x d e h = ap (λ i. get_or (map f (set xs n x)) i d) e ∙ at_same f xs n x d h

-- of one window
owed_list : (n : ℕ) (ts : List (List Letter)) (ps : List (List Delivery)) (qs : List QueueValue) → n < length ts
    → map records ts ≡ owed ps qs → records (get_or ts n []) ≡ map asked (get_or ps n []) ++ map asked_of (pending_at n qs)
owed_list n [] ps qs h e = absurd (omega arith)
owed_list n (t ∷ ts) [] qs h e = absurd (cc)
owed_list n (t ∷ ts) (p ∷ ps) [] h e = absurd (cc)
owed_list zero (t ∷ ts) (p ∷ ps) (q ∷ qs) h e = head_is [] (records t) (map asked p ++ map asked_of q.pending) _ _ e
owed_list (suc n) (t ∷ ts) (p ∷ ps) (q ∷ qs) h e = owed_list n ts ps qs (omega arith)
    (tail_is (records t) (map asked p ++ map asked_of q.pending) (map records ts) (owed ps qs) e)

pub settled_at : (n : ℕ) (ts : List (List Letter)) (ps : List (List Delivery)) (qs : List QueueValue) (sent known : List Letter)
    (found : List Delivery) → n < length ts → map records ts ≡ owed ps qs
    → sent ≡ get_or ts n [] ++ known → get_or ps n [] ≡ found
    → records sent ≡ (map asked found ++ map asked_of (pending_at n qs)) ++ records known
settled_at n ts ps qs sent known found h o s d =
    ap records s ∙ (records_append (get_or ts n []) known
    ∙ ap (λ l. l ++ records known) (owed_list n ts ps qs h o ∙ ap (λ l. map asked l ++ map asked_of (pending_at n qs)) d))

none_pending : (n : ℕ) (qs : List QueueValue) → list_all (λ q. length q.pending == 0) qs ≡ true → pending_at n qs ≡ []
none_pending n [] h = refl
none_pending zero (q ∷ qs) h = empty q.pending (and_both (length q.pending == 0) _ h).0
  where
    empty : (es : List EntryValue) → (length es == 0) ≡ true → es ≡ []
    empty [] e = refl
    empty (x ∷ es) e = absurd (let g : length (x ∷ es) ≡ 0 = grind (arith, nat_tests, e) in omega (arith, g))
none_pending (suc n) (q ∷ qs) h = none_pending n qs (and_both (length q.pending == 0) _ h).1

pub drained_at : (n : ℕ) (c : Content) (sent known : List Letter) (found : List Delivery) → is_drained c ≡ true
    → records sent ≡ (map asked found ++ map asked_of (pending_at n c.queues)) ++ records known
    → records sent ≡ map asked found ++ records known
drained_at n c sent known found h e = e ∙ ap (λ l. l ++ records known)
    (ap (λ es. map asked found ++ map asked_of es) (none_pending n c.queues h) ∙ nil_append (map asked found))

pub marked_notices : (n : ℕ) (ts : List (List Letter)) (ps : List (List Delivery)) (qs : List QueueValue) → EachIsMarked ts ps qs
    → are_notices_marked (get_or ps n []) (marks (get_or ts n [])) ≡ true
marked_notices n [] [] [] a = refl
marked_notices n [] [] (q ∷ qs) a = absurd a
marked_notices n [] (p ∷ ps) qs a = absurd a
marked_notices n (t ∷ ts) [] qs a = absurd a
marked_notices n (t ∷ ts) (p ∷ ps) [] a = absurd a
marked_notices zero (t ∷ ts) (p ∷ ps) (q ∷ qs) a = a.0.notices
marked_notices (suc n) (t ∷ ts) (p ∷ ps) (q ∷ qs) a = marked_notices n ts ps qs a.1

none_left : {A : Type 0} (xs : List A) → length xs ≡ 0 → xs ≡ []
none_left [] h = refl
none_left (x ∷ xs) h = absurd (omega (arith, h))

-- Where as much was collected as was sent, nothing lies anywhere.
all_collected : (sent : List RecordValue) (got found : List Delivery) (pending more : List RecordValue)
    → sent ≡ (map asked (got ++ found) ++ pending) ++ more → length got ≡ length sent → sent ≡ map asked got
all_collected sent got found pending more e h =
    let long = simp (length-append, length-map) at (ap length e) in
    let none : found ≡ [] = none_left found (omega (arith, long, h)) in
    let idle : pending ≡ [] = none_left pending (omega (arith, long, h)) in
    let empty : more ≡ [] = none_left more (omega (arith, long, h)) in
    e ∙ rw (none, idle, empty) (simp append-nil)

settled_if : (r : Report) (reply : Option Output) (found : List Delivery) (pending more : List RecordValue) → r.reply ≡ reply
    → records (letters_sent r.window) ≡ (map asked (collected r.window ++ found) ++ pending) ++ more → IfSome reply (λ o. IsSettled r o)
settled_if r None found pending more is e = tt
settled_if r (Some o) found pending more is e = record {
  reply = λ input h.
      let whole : IsReplyIf r.window input o = subst (λ p. IfSome p (λ p. IsReplyIf r.window input p)) is h in
      whole.reply (all_collected (records (letters_sent r.window)) (collected r.window) found pending more e whole.as_many);
}

-- the reply of a window that met the keeper
pub settled_one : (r : Report) (found : List Delivery) (pending more : List RecordValue)
    → records (letters_sent r.window) ≡ (map asked (collected r.window ++ found) ++ pending) ++ more → IfSome r.reply (λ o. IsSettled r o)
settled_one r found pending more e = settled_if r r.reply found pending more refl e
