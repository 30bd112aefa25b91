-- A fact on a door's answer, from another.
use Rattle.std.specs.Prelude.{Result, Ok, Err, OnErr}
use Rattle.page_store.specs.Answers.{OnPutFailed, OnGot, OnGetFailed}
use Rattle.page_store.specs.declared.door.PutAnswer.{PutAnswer}
use Rattle.page_store.specs.declared.door.PutAnswer.TheVariants as put
use Rattle.page_store.specs.declared.door.GetAnswer.{GetAnswer}
use Rattle.page_store.specs.declared.door.GetAnswer.TheVariants as get
use Rattle.page_store.specs.Stored.{Cut}
use Rattle.page_fan.specs.Fault.{UnlessNoMemory}
use Rattle.page_fan.specs.declared.storing.StoreFault.{StoreFault}
use Rattle.page_fan.specs.declared.storing.StoreFault.TheVariants as fault

pub OnPutFailed-weaken : (P Q : Type 0) → (P → Q) → (answer : PutAnswer) → OnPutFailed answer P → OnPutFailed answer Q
OnPutFailed-weaken P Q weaken (put.Stored page) h = tt
OnPutFailed-weaken P Q weaken put.Failed h = weaken h
OnPutFailed-weaken P Q weaken put.NoMemory h = tt

pub OnGetFailed-weaken : (P Q : Type 0) → (P → Q) → (answer : GetAnswer) → OnGetFailed answer P → OnGetFailed answer Q
OnGetFailed-weaken P Q weaken get.Got h = tt
OnGetFailed-weaken P Q weaken get.Failed h = weaken h

pub OnGot-given : (P Q : Type 0) → P → (answer : GetAnswer) → OnGot answer (P → Q) → OnGot answer Q
OnGot-given P Q p get.Got h = h p
OnGot-given P Q p get.Failed h = tt

pub OnErr-given : {X E : Type 0} (P : Type 0) → P → (result : Result X E) → OnErr result P
OnErr-given P p (Ok x) = tt
OnErr-given P p (Err e) = p

pub UnlessNoMemory-weaken : (P Q : Type 0) → (P → Q) → (result : Result Cut StoreFault) → UnlessNoMemory result P → UnlessNoMemory result Q
UnlessNoMemory-weaken P Q weaken (Ok pages) h = weaken h
UnlessNoMemory-weaken P Q weaken (Err (fault.PageFault page before)) h = weaken h
UnlessNoMemory-weaken P Q weaken (Err fault.NoMemory) h = tt
