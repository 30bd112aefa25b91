-- What a clause sees of a door that fails by a list, and of the maker of such doors.
use Rattle.std.specs.Prelude.{ℕ, ◌+◌, ◌-◌, ◌^◌, ◌==◌, min, Bool, if◌then◌else◌, List, [], slice_index_or}
use Rattle.std.specs.List.{list_any}
use Rattle.std.specs.Coded.{Coded, coded×, coded_ℕ, coded_list}
use base.Stored.{coded_via}

-- a door: the numbers of the calls that are to fail, how many calls were made, and how many failed
pub record Flaky : Type 0 where
  pub failing : List ℕ
  pub calls : ℕ
  pub faults : ℕ

abbrev pub flaky_coded : Coded Flaky
flaky_coded = coded_via (coded× (coded_list coded_ℕ) (coded× coded_ℕ coded_ℕ)) (λ (d : Flaky). (d.failing, (d.calls, d.faults))) (λ x y e i. record { failing = (e i).0; calls = (e i).1.0; faults = (e i).1.1 })

-- one more, up to the greatest u64
abbrev pub one_more : ℕ → ℕ
one_more n = min (n + 1) (2 ^ 64 - 1)

-- whether the next call is on the list; calls are numbered from 1
abbrev pub fails_next : Flaky → Bool
fails_next door = list_any (λ call. call == one_more door.calls) door.failing

-- the door after its next call
abbrev pub after_call : Flaky → Flaky
after_call door = record { failing = door.failing; calls = one_more door.calls; faults = if fails_next door then one_more door.faults else door.faults }

-- a maker: for each provider the calls of its door that are to fail, and the faults of the doors that came back
pub record FlakyPlan : Type 0 where
  pub failing : List (List ℕ)
  pub faults : ℕ

abbrev pub flaky_plan_coded : Coded FlakyPlan
flaky_plan_coded = coded_via (coded× (coded_list (coded_list coded_ℕ)) coded_ℕ) (λ (m : FlakyPlan). (m.failing, m.faults)) (λ x y e i. record { failing = (e i).0; faults = (e i).1 })

-- the door that a maker makes for a provider: one past the lists fails at no call
abbrev pub planned_door : FlakyPlan → ℕ → Flaky
planned_door maker provider = record { failing = slice_index_or maker.failing (provider - 1) []; calls = 0; faults = 0 }
