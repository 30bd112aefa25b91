-- What was given, and the settings that come of it.
use Rattle.std.specs.Prelude.{◌≡◌, ℕ, ◌^◌, ◌≤◌, IsTrue, List, Option, None}
use Rattle.std.specs.Option.{ForSome}
use Rattle.blob_model.specs.Limits.{Bounds, IsWithin}
use Rattle.settings.specs.declared.table.Key.{Key}
use Rattle.settings.specs.declared.table.Key.TheVariants.{Page, Providers, Replicas, MaxSize, MaxVersions, MaxOpen, MaxBlobs, Workers, Connections, Seed, Ops, Readers}
use Rattle.settings.specs.Table.{range_of, fits}

-- what the words or the file give, each setting or none
pub record GivenValues : Type 0 where
  pub page : Option ℕ
  pub providers : Option ℕ
  pub replicas : Option ℕ
  pub max_size : Option ℕ
  pub max_versions : Option ℕ
  pub max_open : Option ℕ
  pub max_blobs : Option ℕ
  pub workers : Option ℕ
  pub connections : Option ℕ
  pub seed : Option ℕ
  pub ops : Option ℕ
  pub readers : Option ℕ
  pub listen : Option (List ℕ)
  pub settings : Option (List ℕ)

abbrev pub nothing : GivenValues
nothing = record {
  page = None;
  providers = None;
  replicas = None;
  max_size = None;
  max_versions = None;
  max_open = None;
  max_blobs = None;
  workers = None;
  connections = None;
  seed = None;
  ops = None;
  readers = None;
  listen = None;
  settings = None;
}

-- what is given, with this number at a key, or with none there
abbrev pub with_number : Key → Option ℕ → GivenValues → GivenValues
with_number Page n given = record given { page = n }
with_number Providers n given = record given { providers = n }
with_number Replicas n given = record given { replicas = n }
with_number MaxSize n given = record given { max_size = n }
with_number MaxVersions n given = record given { max_versions = n }
with_number MaxOpen n given = record given { max_open = n }
with_number MaxBlobs n given = record given { max_blobs = n }
with_number Workers n given = record given { workers = n }
with_number Connections n given = record given { connections = n }
with_number Seed n given = record given { seed = n }
with_number Ops n given = record given { ops = n }
with_number Readers n given = record given { readers = n }

-- where there is a number, it is one of the key's range
abbrev pub IsOf : Key → Option ℕ → Type 0
IsOf key number = ForSome number (λ n. IsTrue (fits (range_of key) n))

-- each number that is given is one of its key's range
pub record IsGiven (given : GivenValues) : Type 0 where
  pub page : IsOf Page given.page
  pub providers : IsOf Providers given.providers
  pub replicas : IsOf Replicas given.replicas
  pub max_size : IsOf MaxSize given.max_size
  pub max_versions : IsOf MaxVersions given.max_versions
  pub max_open : IsOf MaxOpen given.max_open
  pub max_blobs : IsOf MaxBlobs given.max_blobs
  pub workers : IsOf Workers given.workers
  pub connections : IsOf Connections given.connections
  pub seed : IsOf Seed given.seed
  pub ops : IsOf Ops given.ops
  pub readers : IsOf Readers given.readers

-- the settings of a program
pub record SettingsValues : Type 0 where
  pub page : ℕ
  pub providers : ℕ
  pub replicas : ℕ
  pub limits : Bounds
  pub workers : ℕ
  pub connections : ℕ
  pub seed : ℕ
  pub ops : ℕ
  pub readers : ℕ
  pub listen : List ℕ
  pub settings : List ℕ

-- what holds of all settings
pub record IsSettled (settings : SettingsValues) : Type 0 where
  pub page : (i : ℕ) × (settings.page ≡ 2 ^ i) × (2 ≤ i) × (i ≤ 20)
  pub providers : (1 ≤ settings.providers) × (settings.providers ≤ 64)
  pub replicas : (1 ≤ settings.replicas) × (settings.replicas ≤ 8)
  pub replicas_fit : settings.replicas ≤ settings.providers
  pub limits : IsWithin settings.limits
  pub workers : (1 ≤ settings.workers) × (settings.workers ≤ 16)
  pub connections : 1 ≤ settings.connections
  pub ops : (1 ≤ settings.ops) × (settings.ops ≤ 4096)
  pub readers : (1 ≤ settings.readers) × (settings.readers ≤ 16)
