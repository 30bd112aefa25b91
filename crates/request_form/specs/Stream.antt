-- What a stream of requests says.
use Rattle.std.specs.Prelude.{◌≡◌, ℕ, List, [], ◌∷◌, Option}
use Rattle.items.specs.Items.{ItemStream, IsNextItem, IsEndOf}
use Rattle.items.specs.declared.ending.Ending as Endings
use Rattle.request_form.specs.declared.form.Heard.{Heard}
use Rattle.request_form.specs.declared.form.Heard.TheVariants.{Asked, Wrong}
use Rattle.request_form.specs.Replies.{page_faults}
pub use Rattle.items.specs.Items.{after_item, IsFed}

-- the most bytes of a reply's head
abbrev pub max_head : ℕ
max_head = 37

-- a stream of requests, and of what is none
abbrev pub Stream : Type 0
Stream = ItemStream Heard

-- a wrong item is no fault of the outside
abbrev pub IsWellHeard : Heard → Type 0
IsWellHeard (Asked request) = Unit {0}
IsWellHeard (Wrong fault) = page_faults fault ≡ 0

abbrev pub AllWellHeard : List Heard → Type 0
AllWellHeard [] = Unit {0}
AllWellHeard (item ∷ items) = IsWellHeard item × AllWellHeard items

-- the next whole item, which is well heard, or none where only a part of one is left
abbrev pub IsNext : (List ℕ → Stream) → Option Heard → (List ℕ → Stream) → Type 0
IsNext old item new = IsNextItem IsWellHeard old item new

-- what is left over once no whole item is
abbrev pub IsEnding : (List ℕ → Stream) → Endings.Ending Heard → Type 0
IsEnding old ending = IsEndOf IsWellHeard old ending
