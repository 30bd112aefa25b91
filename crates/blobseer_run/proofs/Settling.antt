-- What the words and the settings file come to, and that the settings are refused or stand, never both.
use Rattle.std.proofs.Common.{◌≡◌, ◌≢◌, ℕ, ◌<◌, ◌≤◌, List, length, refl, sym, ◌∙◌, ap, subst, arith}
use Rattle.std.proofs.lemmas.Option.{none-some, same_Some}
use Rattle.std.specs.Prelude.{Option, Some, None}
use Rattle.ports.specs.Files.{Files, Reads}
use Rattle.ports.specs.declared.files.FileText.TheVariants as Texts
use Rattle.settings.specs.declared.table.Command.{Command}
use Rattle.settings.specs.Values.{GivenValues, SettingsValues}
use Rattle.settings.specs.Words.{Bytes}
use Rattle.settings.specs.File.{Gives}
use Rattle.settings.specs.Merged.{merged}
use Rattle.blobseer_run.specs.Told.{file_limit, Order, order_of_words, FileGives, FileRefused, Settled, SettingsRefused, NamesFile, IsFileKnown, Stopped}
use Rattle.blobseer_run.specs.Telling.{FileStops}
use Rattle.blobseer_run.specs.Status.{code_of}
use Rattle.blobseer_run.specs.declared.status.Status.{Status}

-- ---- a file of which it is known what it has

name_same : (name : Option Bytes) (m n : Bytes) → name ≡ Some m → name ≡ Some n → m ≡ n
name_same name m n e f = same_Some m n (sym e ∙ f)

name_none : (name : Option Bytes) (n : Bytes) → name ≡ None → name ≡ Some n → ⊥
name_none name n e f = none-some n (sym e ∙ f)

text_same : (k : Option (Option Bytes)) (a b : Bytes) → k ≢ None → Reads k file_limit (Texts.Text a) → Reads k file_limit (Texts.Text b) → a ≡ b
text_same None a b told x y = absurd (told refl)
text_same (Some None) a b told x y = absurd x
text_same (Some (Some file)) a b told x y = x ∙ sym y

never_long : (k : Option (Option Bytes)) (a : Bytes) → k ≢ None → Reads k file_limit (Texts.Text a) → length a ≤ file_limit → Reads k file_limit Texts.TooLong → ⊥
never_long None a told x short long = told refl
never_long (Some None) a told x short long = x
never_long (Some (Some file)) a told x short long = omega (arith, ap length x, short, long)

gives_same : (text : Bytes) (file file' : GivenValues) → Gives text file → Gives text file' → file ≡ file'
gives_same text file file' g h = same_Some file file' (sym g.keys ∙ h.keys)

module _ (known : Files) (name : Option Bytes) (told : (n : Bytes) → name ≡ Some n → known n ≢ None) where
  -- the same file gives the same
  pub same_file : (file file' : GivenValues) → FileGives known name file → FileGives known name file' → file ≡ file'
  same_file file file' (FileGives.unnamed e g) (FileGives.unnamed f h) = g ∙ sym h
  same_file file file' (FileGives.unnamed e g) (FileGives.named n text f r short h) = absurd (name_none name n e f)
  same_file file file' (FileGives.named n text f r short h) (FileGives.unnamed e g) = absurd (name_none name n e f)
  same_file file file' (FileGives.named n text e r short g) (FileGives.named n' text' f r' short' h) =
      let one : n' ≡ n = name_same name n' n f e in
      let there : Reads (known n) file_limit (Texts.Text text') = subst (λ (m : Bytes). Reads (known m) file_limit (Texts.Text text')) one r' in
      let same : text' ≡ text = text_same (known n) text' text (told n e) there r in
      gives_same text file file' g (subst (λ (t : Bytes). Gives t file') same h)

  -- and isn't refused
  pub not_refused : (file : GivenValues) → FileGives known name file → FileRefused known name → ⊥
  not_refused file (FileGives.unnamed e g) (FileRefused.too_long n f long) = name_none name n e f
  not_refused file (FileGives.unnamed e g) (FileRefused.no_settings n text f r short no_one) = name_none name n e f
  not_refused file (FileGives.named n text e r short g) (FileRefused.too_long n' f long) =
      let one : n' ≡ n = name_same name n' n f e in
      never_long (known n) text (told n e) r short (subst (λ (m : Bytes). Reads (known m) file_limit Texts.TooLong) one long)
  not_refused file (FileGives.named n text e r short g) (FileRefused.no_settings n' text' f r' short' no_one) =
      let one : n' ≡ n = name_same name n' n f e in
      let there : Reads (known n) file_limit (Texts.Text text') = subst (λ (m : Bytes). Reads (known m) file_limit (Texts.Text text')) one r' in
      let same : text ≡ text' = text_same (known n) text text' (told n e) r there in
      no_one file (subst (λ (t : Bytes). Gives t file) same g)

-- ---- both together

module _ (words : List Bytes) (known : Files) (told : IsFileKnown words known) (command : Command) (settings : SettingsValues) (s : Settled words known command settings) where
  name_told : (n : Bytes) → s.given.settings ≡ Some n → known n ≢ None
  name_told n e = told (command, s.given) n s.asks e

  same_order : (order : Order) → order_of_words words ≡ Some order → order ≡ (command, s.given)
  same_order order e = same_Some order (command, s.given) (sym e ∙ s.asks)

  pub settled_not_refused : SettingsRefused words known → ⊥
  settled_not_refused (SettingsRefused.file_refused order asks refused) =
      let there : FileRefused known s.given.settings = subst (λ (o : Order). FileRefused known o.1.settings) (same_order order asks) refused in
      not_refused known s.given.settings name_told s.file s.gives there
  settled_not_refused (SettingsRefused.too_many_replicas order file asks gives less) =
      let one = same_order order asks in
      let there : FileGives known s.given.settings file = subst (λ (o : Order). FileGives known o.1.settings file) one gives in
      let same : file ≡ s.file = same_file known s.given.settings name_told file s.file there s.gives in
      let fewer : (merged s.given s.file).providers < (merged s.given s.file).replicas =
      subst (λ (f : GivenValues). (merged s.given f).providers < (merged s.given f).replicas) same (subst (λ (o : Order). (merged o.1 file).providers < (merged o.1 file).replicas) one less) in
      let enough : (merged s.given s.file).replicas ≤ (merged s.given s.file).providers = subst (λ (v : SettingsValues). v.replicas ≤ v.providers) s.merges s.replicas_fit in
      omega (arith, fewer, enough)

-- ---- why there is nothing to do

module _ (words : List Bytes) (known : Files) (files files' : ℕ) (status : Status) (command : Command) (given : GivenValues) (asks : order_of_words words ≡ Some (command, given)) where
  abbrev StopsAs : Status → Type 0
  StopsAs s = Stopped words known files files' (code_of s)

  pub file_stopped : FileStops known given.settings files files' status → Stopped words known files files' (code_of status)
  file_stopped (FileStops.unread e n named rose) = subst StopsAs (sym e) (Stopped.unread refl ((command, given), n, asks, named) rose)
  file_stopped (FileStops.refused e refused) = subst StopsAs (sym e) (Stopped.unsettled refl (SettingsRefused.file_refused (command, given) asks refused))
  file_stopped (FileStops.starved e) = subst StopsAs (sym e) (Stopped.starved refl)

-- words that name no settings file give none
no_name : (o : Option Bytes) → ((n : Bytes) → o ≡ Some n → ⊥) → o ≡ None
no_name None none = refl
no_name (Some n) none = absurd (none n refl)

pub unnamed : (words : List Bytes) (command : Command) (given : GivenValues) → order_of_words words ≡ Some (command, given) → (¬ NamesFile words) → given.settings ≡ None
unnamed words command given asks none = no_name given.settings (λ n e. none ((command, given), n, asks, e))
