-- What becomes of the doors' maker and of the store's owner as sessions of a watch are made and end.
use Rattle.std.specs.Prelude.{◌≡◌, ◌↔◌, ℕ, ◌+◌, ◌-◌, ◌*◌, ◌^◌, ◌<◌, ◌≤◌, Result, Ok, Err}
use Rattle.page_store.specs.Calls.{Traffic}
use Rattle.client_session.specs.Sessions.{StoreState}
use Rattle.store_sessions.specs.Lent.{LentDoors}
use Rattle.workload_run.specs.WatchStages.{Owner, LeavesWatch}

module _ {M : Type 0} (hands_out takes_back : M → M → Type 0) (doors : ℕ) where
  -- The doors of so many sessions came back, with all that were made meanwhile, which may be fewer than a session has.
  pub record DoorsEnd (ended : ℕ) (first last : M) : Type 0 where
    pub made : ℕ
    pub traffic : Traffic hands_out takes_back made (made + ended * doors) first last

  -- Some sessions had been made, each with so many doors. Where the call came to its end, one more was made in it, and the doors of all came
  -- back; where it didn't, it isn't said how many doors were made in it, and all came back.
  abbrev pub EndDoors : {A E : Type 0} → ℕ → M → M → Result A E → Type 0
  EndDoors ended first last (Ok done) = Traffic hands_out takes_back doors ((1 + ended) * doors) first last
  EndDoors ended first last (Err fault) = DoorsEnd ended first last

module _ {M D : Type 0} (is_true : M → Type 0) (makes : M → ℕ → D → Type 0) where
  -- the maker makes the doors that it made before, and they are as true
  pub record MakesAsBefore (first last : M) : Type 0 where
    pub truth_stays : is_true first ↔ is_true last
    pub plan_stays : (n : ℕ) (door : D) → makes first n door ↔ makes last n door

  module _ (hands_out takes_back : M → M → Type 0) where
    -- So many sessions ended that entered nothing: their passes are with the owner again, and their doors with the maker.
    pub record SessionsEnd (store : StoreState) (ended : ℕ) (old new : Owner) (first last : M) : Type 0 where
      pub leaves : LeavesWatch old new
      pub out : old.out ≡ new.out + ended
      pub traffic : Traffic hands_out takes_back 0 (ended * store.providers) first last
      pub maker : MakesAsBefore first last

    -- Where the call came to its end, so many doors were made in it; where it didn't, it isn't said how many. As many came back as were made. What they
    -- counted went to the maker, which makes the doors that it made before.
    pub record DoorsCameBack {A E : Type 0} (faults : M → ℕ) (doors : ℕ) (first last : M) (told : Result A E) : Type 0 where
      pub lent : LentDoors hands_out takes_back doors first last told
      pub counted : faults last < 2 ^ 64 - 1 → faults first ≤ faults last
      pub maker : MakesAsBefore first last
