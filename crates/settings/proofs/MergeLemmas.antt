-- What is merged is of the ranges.
use Rattle.std.proofs.Common.{◌≡◌, ◌∙◌, ℕ, ◌==◌, ◌≤◌, lit<, true, Option, Some, None, unwrap_or, refl, sym, ap, subst}
use Rattle.std.specs.Option.{option_or}
use lib.Count.{ones, ones_in, ones_cat}
use Rattle.std.proofs.lemmas.Bool.{and_parts, eqb-true}
use Rattle.blob_model.specs.Limits.{Bounds, IsWithin}
use Rattle.settings.specs.declared.table.Key.{Key}
use Rattle.settings.specs.declared.table.Key.TheVariants.{Page, Providers, Replicas, MaxSize, MaxVersions, MaxOpen, MaxBlobs, Workers, Connections, Seed, Ops, Readers}
use Rattle.settings.specs.declared.table.NumberRange.{NumberRange}
use Rattle.settings.specs.Table.{range_of, fits}
use Rattle.settings.specs.Values.{IsOf, SettingsValues, IsSettled}
use Rattle.settings.specs.Merged.{chosen}
use Rattle.settings.proofs.RangeLemmas.{fits_least, fits_most}
use Rattle.settings.proofs.Powers.{page_power}

one_digit : ones 4096 ≡ 1
unfolding ones ones_in
one_digit = ones_cat 12 1 0 (lit< tt)

-- each default is of its range
default_fits : (key : Key) → fits (range_of key) (range_of key).default ≡ true
default_fits Page = ap (λ n. n == 1) one_digit
default_fits Providers = refl
default_fits Replicas = refl
default_fits MaxSize = refl
default_fits MaxVersions = refl
default_fits MaxOpen = refl
default_fits MaxBlobs = refl
default_fits Workers = refl
default_fits Connections = refl
default_fits Seed = refl
default_fits Ops = refl
default_fits Readers = refl

chosen_fits : (key : Key) (words file : Option ℕ) → IsOf key words → IsOf key file → fits (range_of key) (chosen key words file) ≡ true
chosen_fits key (Some n) file w f = w n refl
chosen_fits key None (Some n) w f = f n refl
chosen_fits key None None w f = default_fits key

or_else : (words file : Option ℕ) (default : ℕ) → unwrap_or (option_or words file) default ≡ unwrap_or words (unwrap_or file default)
or_else (Some n) file default = refl
or_else None file default = refl

-- what the calls of std choose is what is chosen
pub chosen_is_fit : (key : Key) (words file either : Option ℕ) (range : NumberRange) (n : ℕ) → IsOf key words → IsOf key file → either ≡ option_or words file
    → range ≡ range_of key → n ≡ unwrap_or either range.default → fits (range_of key) n ≡ true
chosen_is_fit key words file either range n w f first is e =
    let same : n ≡ chosen key words file =
    e ∙ ap (λ (o : Option ℕ). unwrap_or o range.default) first ∙ or_else words file range.default
    ∙ ap (λ (g : NumberRange). unwrap_or words (unwrap_or file g.default)) is in
    subst (λ (m : ℕ). fits (range_of key) m ≡ true) (sym same) (chosen_fits key words file w f)

within : (b : Bounds) → fits (range_of MaxSize) b.max_size ≡ true → fits (range_of MaxVersions) b.max_versions ≡ true → fits (range_of MaxOpen) b.max_open ≡ true
    → fits (range_of MaxBlobs) b.max_blobs ≡ true → IsWithin b
within b size versions waiting blobs = record {
  size = fits_most (range_of MaxSize) b.max_size size;
  versions = fits_most (range_of MaxVersions) b.max_versions versions;
  waiting = fits_most (range_of MaxOpen) b.max_open waiting;
  blobs = fits_most (range_of MaxBlobs) b.max_blobs blobs;
}

between : (key : Key) (n : ℕ) → fits (range_of key) n ≡ true → ((range_of key).least ≤ n) × (n ≤ (range_of key).most)
between key n h = (fits_least (range_of key) n h, fits_most (range_of key) n h)

pub settled : (s : SettingsValues) → fits (range_of Page) s.page ≡ true → fits (range_of Providers) s.providers ≡ true → fits (range_of Replicas) s.replicas ≡ true
    → s.replicas ≤ s.providers → fits (range_of MaxSize) s.limits.max_size ≡ true → fits (range_of MaxVersions) s.limits.max_versions ≡ true
    → fits (range_of MaxOpen) s.limits.max_open ≡ true → fits (range_of MaxBlobs) s.limits.max_blobs ≡ true → fits (range_of Workers) s.workers ≡ true
    → fits (range_of Connections) s.connections ≡ true → fits (range_of Ops) s.ops ≡ true → fits (range_of Readers) s.readers ≡ true → IsSettled s
settled s page providers replicas replicas_fit size versions waiting blobs workers connections ops readers = record {
  page = let at = between Page s.page page in page_power s.page at.0 at.1 (eqb-true _ _ (and_parts _ _ page).1);
  providers = between Providers s.providers providers;
  replicas = between Replicas s.replicas replicas;
  replicas_fit = replicas_fit;
  limits = within s.limits size versions waiting blobs;
  workers = between Workers s.workers workers;
  connections = fits_least (range_of Connections) s.connections connections;
  ops = between Ops s.ops ops;
  readers = between Readers s.readers readers;
}
