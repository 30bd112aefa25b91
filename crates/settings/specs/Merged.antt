-- What the words and the file come to, together with the defaults.
use Rattle.std.specs.Prelude.{ℕ, List, [], Option, unwrap_or}
use Rattle.settings.specs.declared.table.Key.{Key}
use Rattle.settings.specs.declared.table.Key.TheVariants.{Page, Providers, Replicas, MaxSize, MaxVersions, MaxOpen, MaxBlobs, Workers, Connections, Seed, Ops, Readers}
use Rattle.settings.specs.Table.{range_of}
use Rattle.settings.specs.Values.{GivenValues, SettingsValues}

-- the words win over the file, and the file over the default
abbrev pub chosen : Key → Option ℕ → Option ℕ → ℕ
chosen key words file = unwrap_or words (unwrap_or file (range_of key).default)

abbrev pub chosen_text : Option (List ℕ) → Option (List ℕ) → List ℕ
chosen_text words file = unwrap_or words (unwrap_or file [])

abbrev pub merged : GivenValues → GivenValues → SettingsValues
merged words file = record {
  page = chosen Page words.page file.page;
  providers = chosen Providers words.providers file.providers;
  replicas = chosen Replicas words.replicas file.replicas;
  limits = record {
    max_size = chosen MaxSize words.max_size file.max_size;
    max_versions = chosen MaxVersions words.max_versions file.max_versions;
    max_open = chosen MaxOpen words.max_open file.max_open;
    max_blobs = chosen MaxBlobs words.max_blobs file.max_blobs;
  };
  workers = chosen Workers words.workers file.workers;
  connections = chosen Connections words.connections file.connections;
  seed = chosen Seed words.seed file.seed;
  ops = chosen Ops words.ops file.ops;
  readers = chosen Readers words.readers file.readers;
  listen = chosen_text words.listen file.listen;
  settings = chosen_text words.settings file.settings;
}
