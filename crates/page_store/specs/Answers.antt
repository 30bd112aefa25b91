-- What a door's answers say.
use Rattle.std.specs.Prelude.{Bool, true, false}
use Rattle.page_store.specs.Page.{Page}
use Rattle.page_store.specs.declared.door.PutAnswer.{PutAnswer}
use Rattle.page_store.specs.declared.door.PutAnswer.TheVariants as put
use Rattle.page_store.specs.declared.door.GetAnswer.{GetAnswer}
use Rattle.page_store.specs.declared.door.GetAnswer.TheVariants as get

-- a fact on the page, where one was stored
abbrev pub IfStored : PutAnswer → (Page → Type 0) → Type 0
IfStored (put.Stored page) P = P page
IfStored put.Failed P = Unit {0}
IfStored put.NoMemory P = Unit {0}

-- a fact, where the put failed
abbrev pub OnPutFailed : PutAnswer → Type 0 → Type 0
OnPutFailed (put.Stored page) P = Unit {0}
OnPutFailed put.Failed P = P
OnPutFailed put.NoMemory P = Unit {0}

-- whether the put failed
abbrev pub is_put_failed : PutAnswer → Bool
is_put_failed (put.Stored page) = false
is_put_failed put.Failed = true
is_put_failed put.NoMemory = false

-- a fact, where the bytes were got
abbrev pub OnGot : GetAnswer → Type 0 → Type 0
OnGot get.Got P = P
OnGot get.Failed P = Unit {0}

-- a fact, where the get failed
abbrev pub OnGetFailed : GetAnswer → Type 0 → Type 0
OnGetFailed get.Got P = Unit {0}
OnGetFailed get.Failed P = P

-- whether the get failed
abbrev pub is_get_failed : GetAnswer → Bool
is_get_failed get.Got = false
is_get_failed get.Failed = true
