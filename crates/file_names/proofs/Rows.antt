-- Worked rows, computed from the definitions alone: lines, with what they ask for and the replies that docs/FORMATS.md gives for them.
use Rattle.std.specs.Prelude.{◌≡◌, ℕ, true, false, List, [], ◌∷◌, ◌++◌, flat_map, refl, codes}
use Rattle.std.specs.Fmt.{digits}
use Rattle.items.specs.Items.{ItemStream}
use Rattle.hex.specs.Hex.{decode_pairs, encode_with}
use Rattle.request_form.specs.declared.form.Fault.TheVariants as StoreFaults
use Rattle.file_names.specs.declared.form.FileLine.TheVariants as Asks
use Rattle.file_names.specs.declared.form.FileHeard.{FileHeard}
use Rattle.file_names.specs.declared.form.FileHeard.TheVariants.{Asked, Wrong}
use Rattle.file_names.specs.declared.form.FileFault.TheVariants as Faults
use Rattle.file_names.specs.declared.form.FileReply.{FileReply}
use Rattle.file_names.specs.declared.form.FileReply.TheVariants as Replies
use Rattle.file_names.specs.Lines.{heard}
use Rattle.file_names.specs.Said.{said}

-- these lines, each ended by a line feed
lines : List (List ℕ) → List ℕ
lines texts = flat_map (λ text. text ++ 10 ∷ []) texts

-- a stream of whole lines
whole : List FileHeard → ItemStream FileHeard
whole items = record { items = items; whole = items; cut = false }

said_all : List FileReply → List ℕ
said_all replies = flat_map said replies

malformed : FileHeard
malformed = Wrong StoreFaults.Malformed

-- ---- what lines say

forms_heard : heard (lines
    (codes "make /a" ∷ codes "append /a 616263646566" ∷ codes "where /a 1 0 6" ∷ codes "mkdir /d" ∷ codes "make /d/b" ∷ codes "list /" ∷ codes "stat /a" ∷ codes "append /d 00" ∷ codes "append /d -" ∷ codes "read /x 0 0 0"
    ∷ codes "list /a" ∷ codes "finish 3" ∷ codes "quit" ∷ []))
    ≡ whole
    (Asked (Asks.Make (codes "/a")) ∷ Asked (Asks.Append (codes "/a") (97 ∷ 98 ∷ 99 ∷ 100 ∷ 101 ∷ 102 ∷ [])) ∷ Asked (Asks.Where (codes "/a") 1 0 6) ∷ Asked (Asks.Mkdir (codes "/d")) ∷ Asked (Asks.Make (codes "/d/b"))
    ∷ Asked (Asks.List (codes "/")) ∷ Asked (Asks.Stat (codes "/a")) ∷ Asked (Asks.Append (codes "/d") (0 ∷ [])) ∷ Asked (Asks.Append (codes "/d") []) ∷ Asked (Asks.Read (codes "/x") 0 0 0) ∷ Asked (Asks.List (codes "/a"))
    ∷ Asked (Asks.Finish 3) ∷ Asked Asks.Quit ∷ [])
unfolding whole lines decode_pairs
forms_heard = refl

-- what is no path, or one field too many or too few, or a form of a script
wrong_heard : heard (lines
    (codes "mkdir a" ∷ codes "mkdir /." ∷ codes "mkdir /.." ∷ codes "mkdir /a/" ∷ codes "mkdir //a" ∷ codes "mkdir /a b" ∷ codes "mkdir" ∷ codes "mkdir  /a" ∷ codes "Mkdir /a" ∷ codes "stat /a /b" ∷ codes "append /a" ∷ codes "append /a 0"
    ∷ codes "read /a 1 0" ∷ codes "read /a 1 0 01" ∷ codes "where /a 1 0 6 0" ∷ codes "finish /a" ∷ codes "quit now" ∷ codes "create" ∷ codes "recent 1" ∷ []))
    ≡ whole
    (malformed ∷ malformed ∷ malformed ∷ malformed ∷ malformed ∷ malformed ∷ malformed ∷ malformed ∷ malformed ∷ malformed ∷ malformed ∷ malformed ∷ malformed ∷ malformed ∷ malformed ∷ malformed ∷ malformed ∷ malformed
    ∷ malformed ∷ [])
unfolding whole lines malformed decode_pairs
wrong_heard = refl

-- a comment, an empty line, a CR before the line feed, and a last line without one
ends_heard : heard (codes "# a" ++ 10 ∷ 10 ∷ codes "stat /" ++ 13 ∷ 10 ∷ codes "list /" ++ 13 ∷ [])
    ≡ record { items = Asked (Asks.Stat (codes "/")) ∷ Asked (Asks.List (codes "/")) ∷ []; whole = Asked (Asks.Stat (codes "/")) ∷ []; cut = false }
ends_heard = refl

-- ---- how replies are written

run_said : said_all
    (Replies.File (codes "/a") 1 ∷ Replies.Appended 1 0 6
    ∷ Replies.HeldBy (record { page = 0; providers = 1 ∷ 2 ∷ [] } ∷ record { page = 1; providers = 3 ∷ 1 ∷ [] } ∷ []) ∷ Replies.Folder (codes "/d") ∷ Replies.File (codes "/d/b") 2
    ∷ Replies.Listed (record { name = codes "a"; folder = false } ∷ record { name = codes "d"; folder = true } ∷ []) ∷ Replies.FileIs 1 1 6 ∷ Replies.Refused (Faults.Exists (codes "/a"))
    ∷ Replies.Refused (Faults.NotFile (codes "/d")) ∷ Replies.Refused (Faults.NoName (codes "/x")) ∷ Replies.Refused (Faults.NotFolder (codes "/a")) ∷ [])
    ≡ lines
    (codes "file /a blob 1" ∷ codes "version 1 at 0 size 6" ∷ codes "where 0:1,2 1:3,1" ∷ codes "folder /d" ∷ codes "file /d/b blob 2" ∷ codes "list a d/" ∷ codes "file blob 1 version 1 size 6" ∷ codes "error exists /a"
    ∷ codes "error not-file /d" ∷ codes "error no-name /x" ∷ codes "error not-folder /a" ∷ [])
unfolding said_all lines digits
run_said = refl

others_said : said_all
    (Replies.Started 1 2 1 3 ∷ Replies.Content (0 ∷ 171 ∷ []) ∷ Replies.Content [] ∷ Replies.FolderIs 2 ∷ Replies.Listed [] ∷ Replies.HeldBy [] ∷ Replies.Finished 4 ∷ Replies.Refused Faults.TooManyNames
    ∷ Replies.Refused (Faults.Store StoreFaults.Malformed) ∷ Replies.Refused (Faults.Store (StoreFaults.NoTicket 3)) ∷ Replies.Bye ∷ [])
    ≡ lines
    (codes "ticket 1 version 2 at 1 size 3" ∷ codes "data 00ab" ∷ codes "data -" ∷ codes "folder 2" ∷ codes "list" ∷ codes "where -" ∷ codes "published 4" ∷ codes "error too-many-names 65535" ∷ codes "error malformed"
    ∷ codes "error no-ticket 3" ∷ codes "bye" ∷ [])
unfolding said_all lines digits encode_with
others_said = refl
