-- Lists of refreshes, and each blob's last.
use Rattle.std.specs.Prelude.{◌≡◌, ◌==◌, ◌<◌, ℕ, suc, List, [], ◌∷◌, length, Option, Some, None, fold, if◌then◌else◌, slice_get, nat_le}
use mathlib.Core.List.{IsPrefix}
use Rattle.blob_model.specs.Content.{Update}
use Rattle.snapshot.specs.Versions.{updates}
use Rattle.client_session.specs.Sessions.{StoreState}
use Rattle.client_session.specs.Opening.{IsOfStore}
use Rattle.read_board.specs.declared.refresh.Refresh.{Refresh}

-- the version that it shows, and the updates up to it
abbrev pub version_of : Refresh → ℕ
version_of r = length r.snapshot.rows

abbrev pub updates_of : Refresh → List Update
updates_of r = updates r.snapshot.rows

-- where the blob's refresh stands, or the length
abbrev pub place : ℕ → List Refresh → ℕ
place blob [] = 0
place blob (x ∷ xs) = if x.blob == blob then 0 else suc (place blob xs)

-- the refresh in the place of its blob's
abbrev pub put : List Refresh → Refresh → List Refresh
put [] e = e ∷ []
put (x ∷ xs) e = if x.blob == e.blob then e ∷ xs else x ∷ put xs e

-- each blob's last refresh
abbrev pub latest_of : List Refresh → List Refresh
latest_of log = fold put [] log

-- the blob's last refresh
abbrev pub on_board : ℕ → List Refresh → Option Refresh
on_board blob log = fold (λ found e. if e.blob == blob then Some e else found) None log

-- the refresh, where the version is not past it
abbrev pub covering : Option Refresh → ℕ → Option Refresh
covering None version = None
covering (Some e) version = if nat_le version (version_of e) then Some e else None

-- of two refreshes of one blob the earlier one's updates are a beginning of the later one's
abbrev pub IsRising : List Refresh → Type 0
IsRising log = (i j : ℕ) (a b : Refresh) → i < j → slice_get log i ≡ Some a → slice_get log j ≡ Some b → a.blob ≡ b.blob → IsPrefix (updates_of a) (updates_of b)

-- the refresh may come next
abbrev pub MayFollow : List Refresh → Refresh → Type 0
MayFollow log e = (i : ℕ) (a : Refresh) → slice_get log i ≡ Some a → a.blob ≡ e.blob → IsPrefix (updates_of a) (updates_of e)

-- its snapshot is of the store that is named here
abbrev pub IsOn : List StoreState → Refresh → Type 0
IsOn stores r = (s : StoreState) → stores ≡ s ∷ [] → IsOfStore s r.snapshot

-- 64 other blobs are on the board or pending
abbrev pub IsFullFor : ℕ → List Refresh → Type 0
IsFullFor blob log = (on_board blob log ≡ None) × (length (latest_of log) ≡ 64)
