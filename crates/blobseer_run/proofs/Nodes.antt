-- What a node wrote, from what the stream's loop says, and how it ended then.
use Rattle.std.proofs.Common.{◌≡◌, ◌∙◌, ℕ, ◌+◌, ◌<◌, true, List, [], ◌∷◌, ◌++◌, length, flat_map, refl, sym, ap, subst, inl, inr, arith, append_assoc, append-nil, length-append}
use Rattle.std.specs.Prelude.{◌⊎◌}
use Rattle.std.proofs.lemmas.Grind.{flat_map-append}
use Rattle.faults.specs.Counts.{RoseBy}
use Rattle.items.specs.Rounds.{until_last, has_last, Rounds}
use Rattle.server_core.specs.declared.flow.End.{End}
use Rattle.server_core.specs.declared.flow.End.TheVariants as Ends
use Rattle.server_core.specs.Conversing.{AnswersFront}
use Rattle.server_core.specs.Conversed.{CameToEnd, end_read_faults, end_write_faults}
use Rattle.page_node.specs.declared.form.NodeHeard.{NodeHeard}
use Rattle.page_node.specs.declared.form.NodeReply.{NodeReply}
use Rattle.page_node.specs.Node.{Node, NodeAnswers, reply_to, node_after, is_quit}
use Rattle.page_node.specs.Frames.{heard}
use Rattle.page_node.specs.Said.{said}
use Rattle.page_node.specs.Transcript as Nodes
use Rattle.blobseer_run.specs.declared.status.Status.{Status}
use Rattle.blobseer_run.specs.declared.status.Status.TheVariants as Statuses
use Rattle.blobseer_run.specs.Outside.{Outside}
use Rattle.blobseer_run.specs.Conversation.{input_limit, status_after, IsDue, Ended}
use Rattle.blobseer_run.specs.Node.{Says, frames, new_node, DidNode}
use Rattle.blobseer_run.specs.Status.{code_of}
use Rattle.blobseer_run.proofs.Conversations.{input_of, conversed_with, conversed_none}

-- ---- a node answers all frames, so that what it wrote is the front of a transcript

-- the replies to these frames, where memory is found
abbrev replies_to : Node → List NodeHeard → List NodeReply
replies_to node [] = []
replies_to node (item ∷ items) = reply_to node item ∷ replies_to (node_after node item) items

abbrev node_behind : Node → List NodeHeard → Node
node_behind node [] = node
node_behind node (item ∷ items) = node_behind (node_after node item) items

answers_later : (node : Node) (items : List NodeHeard) → Rounds NodeAnswers node items (replies_to node items) (node_behind node items)
answers_later node [] = refl
answers_later node (item ∷ items) = (node_after node item, inl (refl, refl), answers_later (node_after node item) items)

joined : (node mid last : Node) (first later : List NodeHeard) (replies more : List NodeReply) → Rounds NodeAnswers node first replies mid → Rounds NodeAnswers mid later more last
    → Rounds NodeAnswers node (first ++ later) (replies ++ more) last
joined node mid last [] later [] more is run = subst (λ (n : Node). Rounds NodeAnswers n later more last) is run
joined node mid last (item ∷ first) later (reply ∷ replies) more (next, answers, rest) run = (next, answers, joined next mid last first later replies more rest run)
joined node mid last [] later (reply ∷ replies) more none run = absurd none
joined node mid last (item ∷ first) later [] more none run = absurd none

module _ (page : ℕ) (last : Node) (items : List NodeHeard) (rest : List ℕ) (replies : List NodeReply) (out : List ℕ) (run : Rounds NodeAnswers (new_node page) items replies last)
    (says : flat_map said replies ≡ out ++ rest) where
  says_all : (due : List NodeHeard) → items ≡ until_last is_quit due → rest ≡ [] → Says page due out
  says_all due is none = record {
    last = last;
    transcript = record {
      replies = replies;
      run = subst (λ (l : List NodeHeard). Rounds NodeAnswers (new_node page) l replies last) is run;
      says = says ∙ ap (λ (l : List ℕ). out ++ l) none ∙ append-nil out;
    };
  }

  -- the replies to the frames behind these, as they are where memory is found
  abbrev more_to : List NodeHeard → List ℕ
  more_to later = flat_map said (replies_to last later)

  says_front : (due : List NodeHeard) → (front : AnswersFront is_quit due items) → Says page due (out ++ (rest ++ more_to front.0))
  says_front due front = record {
    last = node_behind last front.0;
    transcript = record {
      replies = replies ++ replies_to last front.0;
      run = subst (λ (l : List NodeHeard). Rounds NodeAnswers (new_node page) l (replies ++ replies_to last front.0) (node_behind last front.0)) (sym front.1)
          (joined (new_node page) last (node_behind last front.0) items front.0 replies (replies_to last front.0) run (answers_later last front.0));
      says = flat_map-append said replies (replies_to last front.0) ∙ ap (λ (l : List ℕ). l ++ more_to front.0) says ∙ append_assoc out rest (more_to front.0);
    };
  }

some_more : (rest more : List ℕ) → 0 < length rest → 0 < length (rest ++ more)
some_more rest more some = omega (arith, some, length-append rest more)

-- ---- frames that were answered

module _ (page : ℕ) (old new : Outside) (last : Node) where
  abbrev ServedTo : End → Type 0
  ServedTo end = Nodes.ServedNode (new_node page) old.written (input_of old) (input_of new) input_limit last new.written end

  module _ (end : End) (s : ServedTo end) where
    abbrev taken : List ℕ
    taken = s.conversed.taken

    abbrev text : List ℕ
    text = s.conversed.progress.out

    abbrev items : List NodeHeard
    items = s.conversed.items

    all : (due : List NodeHeard) → items ≡ until_last is_quit due → s.conversed.rest ≡ [] → Says page due text
    all = says_all page last items s.conversed.rest s.conversed.progress.replies text s.conversed.progress.run s.conversed.progress.says

    abbrev more : List NodeHeard → List ℕ
    more later = s.conversed.rest ++ more_to page last items s.conversed.rest s.conversed.progress.replies text s.conversed.progress.run s.conversed.progress.says later

    front : (due : List NodeHeard) → (f : AnswersFront is_quit due items) → Says page due (text ++ more f.0)
    front = says_front page last items s.conversed.rest s.conversed.progress.replies text s.conversed.progress.run s.conversed.progress.says

    did_with : (rest : List ℕ) (status : Status) → new.net ≡ old.net → new.doors ≡ old.doors → Ended (frames page) taken text rest old new (code_of status) → DidNode page old new (code_of status)
    did_with rest status net doors e = record {
      served = conversed_with (frames page) taken text rest old new (code_of status) (record { gave = s.conversed.takes.given; took = s.conversed.takes.left }) s.conversed.within s.conversed.progress.adds e;
      net = net;
      doors = doors;
    }

    quit : ((items ≡ until_last is_quit (heard taken).whole) × (has_last is_quit (heard taken).whole ≡ true)) ⊎ CameToEnd (length taken) input_limit old.ends new.ends new.left
        → items ≡ until_last is_quit (heard taken).items → has_last is_quit (heard taken).items ≡ true → s.conversed.rest ≡ [] → Ended (frames page) taken text [] old new (code_of Statuses.Done)
    quit (inl x) is quits none = Ended.quit refl (heard taken).whole (IsDue.whole refl) x.1 refl (all (heard taken).whole x.0 none)
    quit (inr came) is quits none = Ended.quit refl (heard taken).items (IsDue.all came.0 came.1 came.2 refl) quits refl (all (heard taken).items is none)

    -- the frames that were due, of which those that were answered are the first
    pub record Front : Type 0 where
      pub due : List NodeHeard
      pub is : IsDue (heard taken) taken old new due
      pub first : AnswersFront is_quit due items

    front_of : AnswersFront is_quit (heard taken).whole items ⊎ CameToEnd (length taken) input_limit old.ends new.ends new.left → AnswersFront is_quit (heard taken).items items → Front
    front_of (inl f) g = record { due = (heard taken).whole; is = IsDue.whole refl; first = f }
    front_of (inr came) g = record { due = (heard taken).items; is = IsDue.all came.0 came.1 came.2 refl; first = g }

    unwritten : Front → RoseBy 1 old.writes new.writes → 0 < length s.conversed.rest → (rest : List ℕ) × Ended (frames page) taken text rest old new (code_of Statuses.WriteFault)
    unwritten f rose some = (more f.first.0, Ended.unwritten refl rose f.due f.is (some_more _ _ some) (front f.due f.first))

    starved : Front → (rest : List ℕ) × Ended (frames page) taken text rest old new (code_of Statuses.OutOfMemory)
    starved f = (more f.first.0, Ended.starved refl f.due f.is (front f.due f.first))

  pub did_node : (end : End) → ServedTo end → RoseBy (end_read_faults end) old.reads new.reads → RoseBy (end_write_faults end) old.writes new.writes → new.net ≡ old.net → new.doors ≡ old.doors
      → DidNode page old new (code_of (status_after end))
  did_node Ends.Quit s r w net doors =
      let e = s.conversed.ended in
      did_with Ends.Quit s [] Statuses.Done net doors (quit Ends.Quit s s.conversed.reaches e.0.0 e.1 e.0.1)
  did_node Ends.InputEnd s r w net doors =
      let e = s.conversed.ended in
      did_with Ends.InputEnd s [] Statuses.Done net doors (Ended.finished refl e.3 s.conversed.closing e.4 e.2 refl (all Ends.InputEnd s _ e.0.0 e.0.1))
  did_node Ends.Cut s r w net doors =
      let e = s.conversed.ended in
      did_with Ends.Cut s [] Statuses.Done net doors (Ended.cut refl e.3 s.conversed.closing e.4 e.2 e.1 refl (all Ends.Cut s _ e.0.0 e.0.1))
  did_node Ends.ReadFault s r w net doors =
      let e = s.conversed.ended in
      did_with Ends.ReadFault s [] Statuses.ReadFault net doors (Ended.unread refl e.2 r e.1 refl (all Ends.ReadFault s _ e.0.0 e.0.1))
  did_node Ends.WriteFault s r w net doors =
      let e = s.conversed.ended in
      let u = unwritten Ends.WriteFault s (front_of Ends.WriteFault s s.conversed.reaches e.0) w e.1 in
      did_with Ends.WriteFault s u.0 Statuses.WriteFault net doors u.1
  did_node Ends.InputTooLong s r w net doors =
      let e = s.conversed.ended in
      did_with Ends.InputTooLong s [] Statuses.InputTooLong net doors (Ended.too_long refl e.2 e.1 refl (all Ends.InputTooLong s _ e.0.0 e.0.1))
  did_node Ends.NoMemory s r w net doors =
      let u = starved Ends.NoMemory s (front_of Ends.NoMemory s s.conversed.reaches s.conversed.ended) in
      did_with Ends.NoMemory s u.0 Statuses.OutOfMemory net doors u.1

-- frames that were answered from a shelf that was new
pub did_from : (page : ℕ) (old new : Outside) (first last : Node) (end : End) (status : Status) → first ≡ new_node page → status ≡ status_after end
    → Nodes.ServedNode first old.written (input_of old) (input_of new) input_limit last new.written end → RoseBy (end_read_faults end) old.reads new.reads → RoseBy (end_write_faults end) old.writes new.writes
    → new.net ≡ old.net → new.doors ≡ old.doors → DidNode page old new (code_of status)
did_from page old new first last end status fresh is served reads writes net doors =
    let from_new = subst (λ (n : Node). Nodes.ServedNode n old.written (input_of old) (input_of new) input_limit last new.written end) fresh served in
    subst (λ (s : Status). DidNode page old new (code_of s)) (sym is) (did_node page old new last end from_new reads writes net doors)

-- where no memory was found for a shelf
pub did_none : (page : ℕ) (outside : Outside) → DidNode page outside outside (code_of Statuses.OutOfMemory)
did_none page outside = record {
  served = conversed_none (frames page) outside outside refl refl refl (record { last = new_node page; transcript = record { replies = []; run = refl; says = refl } });
  net = refl;
  doors = refl;
}
