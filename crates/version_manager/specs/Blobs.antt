-- The next update of one blob, over its window.
use Rattle.std.specs.Prelude.{◌≡◌, ℕ, ◌<◌, ◌≤◌, List, length}
use Rattle.blob_model.specs.Content.{offset_of}
use Rattle.blob_model.specs.Limits.{Bounds, IsWithin}
use Rattle.blob_model.specs.Store.{Blob, assigned, waiting, size_now, size_with}
use Rattle.blob_model.specs.declared.call.Place.{Place}
use Rattle.publisher.specs.Windows.{Numbered}
use Rattle.version_manager.specs.DeskInvariant.{Keeps}

-- the blob that the window keeps takes an update of these bytes there: no reason stands against it
pub record Takes (limits : Bounds) (w : Numbered) (b : Blob) (place : Place) (bytes : List ℕ) : Type 0 where
  pub kept : Keeps limits w b
  pub bounds : IsWithin limits
  pub even : length w.rows ≡ length w.log
  pub some : 1 ≤ length bytes
  pub begins : offset_of place (size_now b) ≤ size_now b
  pub fits : size_with b place bytes ≤ limits.max_size
  pub versions : assigned b < limits.max_versions
  pub waits : waiting b < limits.max_open

-- the update falls at that byte, and leaves the blob that size
pub record Falls (limits : Bounds) (w : Numbered) (b : Blob) (place : Place) (bytes : List ℕ) (at size : ℕ) : Type 0 where
  pub takes : Takes limits w b place bytes
  pub at_is : at ≡ offset_of place (size_now b)
  pub size_is : size ≡ size_with b place bytes
