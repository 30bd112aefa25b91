-- Facts on results.
use Rattle.std.specs.Prelude.{Result, Ok, Err, IfOk, IfErr}
use Rattle.version_manager.specs.declared.fault.DeskFault.{DeskFault}
use Rattle.version_manager.specs.declared.fault.DeskFault.TheVariants.{Refused, NoMemory}
use Rattle.version_manager.specs.Desks.{OnNoMemory}

pub if_ok : {A E : Type 0} (r : Result A E) (P Q : A → Type 0) → ((a : A) → P a → Q a) → IfOk r P → IfOk r Q
if_ok (Ok a) P Q f h = f a h
if_ok (Err e) P Q f h = h

pub if_err : {A E : Type 0} (r : Result A E) (P Q : E → Type 0) → ((e : E) → P e → Q e) → IfErr r P → IfErr r Q
if_err (Ok a) P Q f h = h
if_err (Err e) P Q f h = f e h

pub on_no_memory : (fault : DeskFault) (P Q : Type 0) → (P → Q) → OnNoMemory fault P → OnNoMemory fault Q
on_no_memory (Refused r) P Q f h = h
on_no_memory NoMemory P Q f h = f h
