-- What doors answer to the puts of their groups.
use Rattle.std.specs.Prelude.{◌≡◌, ℕ, ◌+◌, ◌<◌, ◌≤◌, List, [], All, length, slice_index, slice_index_or, take, drop}
use Rattle.page_store.specs.Answers.{IfStored, OnPutFailed}
use Rattle.page_store.specs.Count.{HasRisen}
use Rattle.page_store.specs.House.{House, IsProvider}
use Rattle.page_store.specs.Page.{IsAmong}
use Rattle.page_store.specs.declared.door.PutAnswer.{PutAnswer}
use Rattle.page_fan.specs.declared.stand.Put.{Put}
use Rattle.page_fan.specs.declared.stand.PutReply.{PutReply}

-- a put that can be made: its provider is one of so many, and its page begins within the buffer
pub record CanBePut (providers : ℕ) (buffer : List ℕ) (put : Put) : Type 0 where
  pub known : IsProvider providers put.provider
  pub within : put.at < length buffer

-- an answer to the put of these bytes at this provider, whose door's count was `before` and is `now`
pub record IsAnswer (houses : List House) (provider : ℕ) (content : List ℕ) (before now : ℕ) (answer : PutAnswer) : Type 0 where
  pub here : IfStored answer (λ page. IsAmong houses page.spot)
  pub there : IfStored answer (λ page. page.spot.provider ≡ provider)
  pub bytes : IfStored answer (λ page. page.bytes ≡ content)
  pub failed : OnPutFailed answer (HasRisen before now)

-- an answer to this put of a page of the buffer, at its own provider
abbrev pub IsAnswerTo : List House → ℕ → List ℕ → Put → ℕ → ℕ → PutAnswer → Type 0
IsAnswerTo houses page_size buffer put before now answer =
    IsAnswer houses put.provider (take page_size (drop put.at buffer)) before now answer

-- the count of a provider's door was `before` and is `now`, and each reply in its tray answers the put of its page there
pub record HasReplies (houses : List House) (page_size : ℕ) (buffer : List ℕ) (provider before now : ℕ) (tray : List PutReply) : Type 0 where
  pub kept : before ≤ now
  pub each : All (λ (reply : PutReply). IsAnswer houses provider (take page_size (drop reply.at buffer)) before now reply.answer) tray

-- so it is at each provider, where the first of each list is that of provider 1
abbrev pub AllReplied : List House → ℕ → List ℕ → List ℕ → List ℕ → List (List PutReply) → Type 0
AllReplied houses page_size buffer before now trays =
    (k : ℕ) → k < length trays
    → HasReplies houses page_size buffer (k + 1) (slice_index before k) (slice_index now k) (slice_index_or trays k [])
