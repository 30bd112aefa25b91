-- How a stream of items ends, and what was answered then.
use Rattle.std.specs.Prelude.{◌≡◌, ◌⊎◌, ℕ, ◌≢◌, ◌<◌, ◌≤◌, Bool, true, false, List, [], ◌++◌, length, Option, Some, ⊤, flat_map}
use Rattle.std.specs.Io.KnownBytes.{Appends, Consumes, IsAtEnd}
use Rattle.faults.specs.Counts.{RoseBy}
use Rattle.items.specs.Items.{ItemStream}
use Rattle.items.specs.Rounds.{until_last, has_last}
use Rattle.server_core.specs.declared.flow.End.{End}
use Rattle.server_core.specs.declared.flow.End.TheVariants as Ends
use Rattle.server_core.specs.Talk.{Talk, PointOf}
use Rattle.server_core.specs.Conversing.{Progress, AnswersFront}

-- the most bytes of a piece
abbrev pub greatest_piece : ℕ
greatest_piece = 65536

-- these are the items up to the last one, and all their replies were written
abbrev pub AnswersAll : {Item : Type 0} → (Item → Bool) → List Item → List Item → List ℕ → Type 0
AnswersAll is_last heard items rest = (items ≡ until_last is_last heard) × (rest ≡ [])

-- What an end says of what the bytes taken say, of their number, of the items that were answered, of what of their replies
-- wasn't written, and of what the stream has left. Whole items are those that don't wait for the end of the stream.
abbrev pub Ended : {Item : Type 0} → (Item → Bool) → ItemStream Item → ℕ → ℕ → List Item → List ℕ → Option (List ℕ) → End → Type 0
Ended is_last heard taken limit items rest left Ends.Quit = AnswersAll is_last heard.items items rest × (has_last is_last heard.items ≡ true)
Ended is_last heard taken limit items rest left Ends.InputEnd =
    AnswersAll is_last heard.items items rest × (has_last is_last heard.items ≡ false) × (heard.cut ≡ false) × (taken < limit) × IsAtEnd left
Ended is_last heard taken limit items rest left Ends.Cut =
    AnswersAll is_last heard.whole items rest × (has_last is_last heard.whole ≡ false) × (heard.cut ≡ true) × (taken < limit) × IsAtEnd left
Ended is_last heard taken limit items rest left Ends.ReadFault = AnswersAll is_last heard.whole items rest × (has_last is_last heard.whole ≡ false) × (taken < limit)
Ended is_last heard taken limit items rest left Ends.InputTooLong = AnswersAll is_last heard.whole items rest × (has_last is_last heard.whole ≡ false) × (taken ≡ limit)
Ended is_last heard taken limit items rest left Ends.WriteFault = AnswersFront is_last heard.items items × (0 < length rest)
Ended is_last heard taken limit items rest left Ends.NoMemory = AnswersFront is_last heard.items items

-- Whether the stream answered that nothing is left: always at an input's end, never at a read fault or at the limit. A Quit or a write fault after it
-- answers what the end made whole, so that the bytes taken don't end inside one.
abbrev pub Closing : {Item : Type 0} → ItemStream Item → ℕ → ℕ → End → Type 0
Closing heard ends ends' Ends.Quit = heard.cut ≡ true → ends' ≡ ends
Closing heard ends ends' Ends.InputEnd = RoseBy 1 ends ends'
Closing heard ends ends' Ends.Cut = RoseBy 1 ends ends'
Closing heard ends ends' Ends.ReadFault = ends' ≡ ends
Closing heard ends ends' Ends.WriteFault = heard.cut ≡ true → ends' ≡ ends
Closing heard ends ends' Ends.InputTooLong = ends' ≡ ends
Closing heard ends ends' Ends.NoMemory = ⊤

-- the stream answered that nothing is left, before the limit, and where it tells, nothing was left of it
abbrev pub CameToEnd : ℕ → ℕ → ℕ → ℕ → Option (List ℕ) → Type 0
CameToEnd taken limit ends ends' left = (taken < limit) × RoseBy 1 ends ends' × IsAtEnd left

-- An item that isn't whole is answered only at the stream's end: before it a last item is a whole one, and so are the items before a fault or want of memory.
abbrev pub Reaches : {Item : Type 0} → (Item → Bool) → ItemStream Item → ℕ → ℕ → List Item → ℕ → ℕ → Option (List ℕ) → End → Type 0
Reaches is_last heard taken limit items ends ends' left Ends.Quit = ((items ≡ until_last is_last heard.whole) × (has_last is_last heard.whole ≡ true)) ⊎ CameToEnd taken limit ends ends' left
Reaches is_last heard taken limit items ends ends' left Ends.InputEnd = ⊤
Reaches is_last heard taken limit items ends ends' left Ends.Cut = ⊤
Reaches is_last heard taken limit items ends ends' left Ends.ReadFault = ⊤
Reaches is_last heard taken limit items ends ends' left Ends.WriteFault = AnswersFront is_last heard.whole items ⊎ CameToEnd taken limit ends ends' left
Reaches is_last heard taken limit items ends ends' left Ends.InputTooLong = ⊤
Reaches is_last heard taken limit items ends ends' left Ends.NoMemory = AnswersFront is_last heard.whole items ⊎ CameToEnd taken limit ends ends' left

-- The items that were answered are the first ones however the stream goes on, unless it came to its end.
abbrev pub StaysFirst : {Item : Type 0} → (Item → Bool) → (List ℕ → ItemStream Item) → List ℕ → ℕ → List Item → ℕ → ℕ → Option (List ℕ) → Type 0
StaysFirst is_last reads taken limit items ends ends' left =
    ((more : List ℕ) → AnswersFront is_last (reads (taken ++ more)).items items) ⊎ CameToEnd (length taken) limit ends ends' left

-- A Quit, a write fault and want of memory may come before the stream's end, and then no later byte changes what was answered.
abbrev pub Stays : {Item : Type 0} → (Item → Bool) → (List ℕ → ItemStream Item) → List ℕ → ℕ → List Item → ℕ → ℕ → Option (List ℕ) → End → Type 0
Stays is_last reads taken limit items ends ends' left Ends.Quit = StaysFirst is_last reads taken limit items ends ends' left
Stays is_last reads taken limit items ends ends' left Ends.InputEnd = ⊤
Stays is_last reads taken limit items ends ends' left Ends.Cut = ⊤
Stays is_last reads taken limit items ends ends' left Ends.ReadFault = ⊤
Stays is_last reads taken limit items ends ends' left Ends.WriteFault = StaysFirst is_last reads taken limit items ends ends' left
Stays is_last reads taken limit items ends ends' left Ends.InputTooLong = ⊤
Stays is_last reads taken limit items ends ends' left Ends.NoMemory = StaysFirst is_last reads taken limit items ends ends' left

-- where a stream stands as a source: the bytes that it gave, those that it has left, and its count of ends
pub record Input : Type 0 where
  pub given : Option (List ℕ)
  pub left : Option (List ℕ)
  pub ends : ℕ

-- bytes were taken off a stream
pub record TakesOff (bytes : List ℕ) (old new : Input) : Type 0 where
  pub given : Appends old.given new.given bytes
  pub left : Consumes old.left new.left bytes

-- A stream is read in pieces of at most 65,536 bytes, and each is answered before the next one is read: all the bytes taken but those of the last piece
-- hold no last item that is whole, their whole items were answered first, and the replies to them were written.
pub record InPieces {Item : Type 0} (talk : Talk Item) (reads : List ℕ → ItemStream Item) (taken : List ℕ) (items : List Item) (replies : List talk.Reply) (out : List ℕ) : Type 0 where
  pub earlier : List ℕ
  pub piece : List ℕ
  pub joins : taken ≡ earlier ++ piece
  pub short : length piece ≤ greatest_piece
  pub no_quit : has_last talk.is_last (reads earlier).whole ≡ false
  pub later : List Item
  pub answered : items ≡ (reads earlier).whole ++ later
  pub first : List talk.Reply
  pub others : List talk.Reply
  pub replied : replies ≡ first ++ others
  pub one_each : length first ≡ length (reads earlier).whole
  pub text : List ℕ
  pub wrote : out ≡ flat_map talk.said first ++ text

-- What a stream was answered: the bytes that were taken, at most as many as the limit, the items in them that were answered, what of their replies
-- wasn't written, and what the end says of them.
pub record Conversed {Item : Type 0} (talk : Talk Item) (old : PointOf talk.Session) (reads : List ℕ → ItemStream Item) (before after : Input) (limit : ℕ) (new : PointOf talk.Session) (end : End) : Type 0 where
  pub taken : List ℕ
  pub takes : TakesOff taken before after
  pub within : length taken ≤ limit
  pub items : List Item
  pub rest : List ℕ
  pub progress : Progress talk [] old items rest new
  pub pieces : InPieces talk reads taken items progress.replies progress.out
  pub ended : Ended talk.is_last (reads taken) (length taken) limit items rest after.left end
  pub closing : Closing (reads taken) before.ends after.ends end
  pub reaches : Reaches talk.is_last (reads taken) (length taken) limit items before.ends after.ends after.left end
  pub stays : Stays talk.is_last reads taken limit items before.ends after.ends after.left end

-- that end, unless no memory was found
abbrev pub IsEnd : End → End → Type 0
IsEnd end other = (other ≢ Ends.NoMemory) → other ≡ end

-- each end comes in each case that it stands for, unless no memory was found
pub record EndsExactly {Item : Type 0} (is_last : Item → Bool) (heard : ItemStream Item) (taken limit : ℕ) (items : List Item) (rest : List ℕ) (ends ends' : ℕ) (end : End) : Type 0 where
  pub quit : AnswersAll is_last heard.items items rest → has_last is_last heard.items ≡ true → IsEnd Ends.Quit end
  pub input_end : ends < ends' → heard.cut ≡ false → has_last is_last heard.items ≡ false → AnswersAll is_last heard.items items rest → IsEnd Ends.InputEnd end
  pub cut : ends < ends' → heard.cut ≡ true → IsEnd Ends.Cut end
  pub too_long : taken ≡ limit → has_last is_last heard.whole ≡ false → AnswersAll is_last heard.whole items rest → IsEnd Ends.InputTooLong end

-- A conversation ended exactly as the bytes taken, the replies written and the count of ends say.
abbrev pub ConversedExactly : {Item : Type 0} → Talk Item → Type 0
ConversedExactly {Item = Item} talk = (old : PointOf talk.Session) (reads : List ℕ → ItemStream Item) (before after : Input) (limit : ℕ) (new : PointOf talk.Session) (end : End)
    → (held : Conversed talk old reads before after limit new end)
    → EndsExactly talk.is_last (reads held.taken) (length held.taken) limit held.items held.rest before.ends after.ends end

-- What a stream tells of a conversation that it had, where it told what it had given and what was written before.
pub record TellsAll (given taken written out : List ℕ) (given' written' : Option (List ℕ)) : Type 0 where
  pub gave : given' ≡ Some (given ++ taken)
  pub wrote : written' ≡ Some (written ++ out)

-- A conversation over a stream that tells what it gave and what was written leaves neither open: the bytes that were taken are those that the stream gave in
-- it, and what was put out is what was written in it.
abbrev pub ConversedTold : {Item : Type 0} → Talk Item → Type 0
ConversedTold {Item = Item} talk = (old : PointOf talk.Session) (reads : List ℕ → ItemStream Item) (before after : Input) (limit : ℕ) (new : PointOf talk.Session) (end : End)
    → (held : Conversed talk old reads before after limit new end) (given written : List ℕ)
    → before.given ≡ Some given → old.written ≡ Some written
    → TellsAll given held.taken written held.progress.out after.given new.written

-- what the end of a stream says of the item that it leaves over, where each whole one was answered
abbrev pub FinishedAs : {Item : Type 0} → (Item → Bool) → ItemStream Item → List Item → List ℕ → End → Type 0
FinishedAs is_last heard items rest Ends.Quit = AnswersAll is_last heard.items items rest × (has_last is_last heard.items ≡ true) × (heard.cut ≡ false)
FinishedAs is_last heard items rest Ends.InputEnd = AnswersAll is_last heard.items items rest × (has_last is_last heard.items ≡ false) × (heard.cut ≡ false)
FinishedAs is_last heard items rest Ends.Cut = (items ≡ []) × (rest ≡ []) × (heard.cut ≡ true)
FinishedAs is_last heard items rest Ends.WriteFault = AnswersFront is_last heard.items items × (0 < length rest) × (heard.cut ≡ false)
FinishedAs is_last heard items rest Ends.NoMemory = AnswersFront is_last heard.items items
FinishedAs is_last heard items rest Ends.ReadFault = ⊥
FinishedAs is_last heard items rest Ends.InputTooLong = ⊥

-- what is answered at the end of a stream
pub record Finished {Item : Type 0} (talk : Talk Item) (old : PointOf talk.Session) (heard : ItemStream Item) (new : PointOf talk.Session) (end : End) : Type 0 where
  pub items : List Item
  pub rest : List ℕ
  pub progress : Progress talk [] old items rest new
  pub tells : FinishedAs talk.is_last heard items rest end

-- the faults of reads that an end tells of
abbrev pub end_read_faults : End → ℕ
end_read_faults Ends.Quit = 0
end_read_faults Ends.InputEnd = 0
end_read_faults Ends.Cut = 0
end_read_faults Ends.ReadFault = 1
end_read_faults Ends.WriteFault = 0
end_read_faults Ends.InputTooLong = 0
end_read_faults Ends.NoMemory = 0

-- the faults of writes that an end tells of
abbrev pub end_write_faults : End → ℕ
end_write_faults Ends.Quit = 0
end_write_faults Ends.InputEnd = 0
end_write_faults Ends.Cut = 0
end_write_faults Ends.ReadFault = 0
end_write_faults Ends.WriteFault = 1
end_write_faults Ends.InputTooLong = 0
end_write_faults Ends.NoMemory = 0

-- the answers of the stream that nothing is left, that an end tells of
abbrev pub end_ends : End → ℕ
end_ends Ends.Quit = 0
end_ends Ends.InputEnd = 1
end_ends Ends.Cut = 1
end_ends Ends.ReadFault = 0
end_ends Ends.WriteFault = 0
end_ends Ends.InputTooLong = 0
end_ends Ends.NoMemory = 0
