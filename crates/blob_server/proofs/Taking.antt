-- What a listener handed out, peer by peer.
use Rattle.std.proofs.Common.{◌≡◌, ◌∙◌, ℕ, ◌<◌, arith, refl, subst, sym, Bool, true}
use Rattle.faults.specs.Counts.{RoseBy, count_after}
use Rattle.blob_server.specs.Serving.{Handing, FailedAfter, TakesAs, ServedMany}

pub rose_on : (n a b c : ℕ) → RoseBy 0 a b → RoseBy n b c → RoseBy n a c
rose_on n a b c one other = record { later = omega (arith, one.later, other.later); by = λ less. omega (arith, one.later, other.by less) }

-- so many peers were handed out so far, and nothing else was answered
pub record Taken (peers : ℕ) (old now : Handing) : Type 0 where
  pub handed : now.handed ≡ count_after peers old.handed
  pub done : now.is_done ≡ old.is_done
  pub faults : RoseBy 0 old.faults now.faults

module _ (connections peers : ℕ) (old now new : Handing) (taken : Taken peers old now) where
  pub fails : peers < connections → new.handed ≡ now.handed → new.is_done ≡ now.is_done → RoseBy 1 now.faults new.faults → (failed : FailedAfter connections old new) × (failed.peers ≡ peers)
  fails less handed done faults = (
    record {
      peers = peers;
      fewer = less;
      handed = handed ∙ taken.handed;
      done = done ∙ taken.done;
      failed = rose_on 1 old.faults now.faults new.faults taken.faults faults;
    },
    refl,
  )

-- where the listener failed, those that it had handed out were served
pub served_till_then : {P : Type 0} (Served : P → Type 0) (connections peers : ℕ) (failed : Bool) (old new : Handing) → failed ≡ true → TakesAs connections peers failed old new
    → ServedMany Served peers → (after : FailedAfter connections old new) × ServedMany Served after.peers
served_till_then Served connections peers failed old new is took served =
    let took' = subst (λ b. TakesAs connections peers b old new) is took in
    (took'.0, record { peers = served.peers; number = served.number ∙ sym took'.1; each = served.each })
