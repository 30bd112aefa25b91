-- Worked rows, computed from the definitions alone: a node whose pages have at most 4 bytes.
use Rattle.std.specs.Prelude.{◌≡◌, ℕ, List, [], ◌∷◌, ◌++◌, true, false, refl, codes}
use Rattle.items.specs.Items.{ItemStream}
use Rattle.frame_wire.specs.Said.{field, wide_field, frame_of}
use Rattle.page_node.specs.declared.form.NodeRequest.TheVariants as Requests
use Rattle.page_node.specs.declared.form.NodeReply.TheVariants as Replies
use Rattle.page_node.specs.declared.form.NodeFault.TheVariants as Faults
use Rattle.page_node.specs.declared.form.NodeHeard.{NodeHeard}
use Rattle.page_node.specs.declared.form.NodeHeard.TheVariants.{Asked, Wrong}
use Rattle.page_node.specs.Node.{Node, reply_to, node_after}
use Rattle.page_node.specs.Frames.{heard}
use Rattle.page_node.specs.Said.{said, asked}

-- a small number in 8 bytes
small : ℕ → List ℕ
small n = 0 ∷ 0 ∷ 0 ∷ 0 ∷ 0 ∷ 0 ∷ 0 ∷ n ∷ []

-- a small number of bytes, and these bytes
counted : ℕ → List ℕ → List ℕ
counted n bytes = 0 ∷ 0 ∷ 0 ∷ n ∷ bytes

-- a node without pages, and one with the page "abc"
empty_node : Node
empty_node = record { page_size = 4; pages = [] }

one_page : Node
one_page = record { page_size = 4; pages = codes "abc" ∷ [] }

-- a stream that ends behind a whole frame
whole : List NodeHeard → ItemStream NodeHeard
whole items = record { items = items; whole = items; cut = false }

-- ---- what frames ask

put_heard : heard (counted 4 (32 ∷ codes "abc")) ≡ whole (Asked (Requests.Put (codes "abc")) ∷ [])
unfolding whole counted
put_heard = refl

get_and_quit_heard : heard (counted 25 (33 ∷ small 0 ++ small 1 ++ small 2) ++ counted 1 (13 ∷ [])) ≡ whole (Asked (Requests.Get 0 1 2) ∷ Asked Requests.Quit ∷ [])
unfolding whole counted small
get_and_quit_heard = refl

empty_put_heard : heard (counted 1 (32 ∷ [])) ≡ whole (Asked (Requests.Put []) ∷ [])
unfolding whole counted
empty_put_heard = refl

-- no bytes, an operation of the store's, a get without its last byte, and a quit with one more; the next frame begins behind each
bad_heard : heard (counted 0 [] ++ counted 1 (1 ∷ []) ++ counted 24 (33 ∷ small 0 ++ small 1 ++ 0 ∷ 0 ∷ 0 ∷ 0 ∷ 0 ∷ 0 ∷ 0 ∷ []) ++ counted 2 (13 ∷ 13 ∷ []))
    ≡ whole (Wrong Faults.BadFrame ∷ Wrong Faults.BadFrame ∷ Wrong Faults.BadFrame ∷ Wrong Faults.BadFrame ∷ [])
unfolding whole counted small
bad_heard = refl

-- a frame that is cut
cut_heard : heard (counted 4 (32 ∷ codes "ab")) ≡ record { items = []; whole = []; cut = true }
unfolding counted
cut_heard = refl

-- ---- what the node answers, and what it keeps then

put_kept : (reply_to empty_node (Asked (Requests.Put (codes "abc"))) ≡ Replies.Kept 0) × (node_after empty_node (Asked (Requests.Put (codes "abc"))) ≡ one_page)
unfolding empty_node one_page
put_kept = (refl, refl)

next_kept : reply_to one_page (Asked (Requests.Put (codes "abcd"))) ≡ Replies.Kept 1
unfolding one_page
next_kept = refl

get_given : (reply_to one_page (Asked (Requests.Get 0 1 2)) ≡ Replies.Given (codes "bc")) × (reply_to one_page (Asked (Requests.Get 0 3 0)) ≡ Replies.Given [])
unfolding one_page
get_given = (refl, refl)

no_page : reply_to one_page (Asked (Requests.Get 1 1 2)) ≡ Replies.Refused (Faults.NoPage 1)
unfolding one_page
no_page = refl

past_page : reply_to one_page (Asked (Requests.Get 0 2 2)) ≡ Replies.Refused (Faults.PastPage 4 3)
unfolding one_page
past_page = refl

-- the sum of two great numbers
far_past_page : reply_to one_page (Asked (Requests.Get 0 18446744073709551615 18446744073709551615)) ≡ Replies.Refused (Faults.PastPage 36893488147419103230 3)
unfolding one_page
far_past_page = refl

empty_update : (reply_to one_page (Asked (Requests.Put [])) ≡ Replies.Refused Faults.EmptyUpdate) × (node_after one_page (Asked (Requests.Put [])) ≡ one_page)
unfolding one_page
empty_update = (refl, refl)

update_too_long : (reply_to one_page (Asked (Requests.Put (codes "abcde"))) ≡ Replies.Refused (Faults.UpdateTooLong 5)) × (node_after one_page (Asked (Requests.Put (codes "abcde"))) ≡ one_page)
unfolding one_page
update_too_long = (refl, refl)

-- ---- how it is written

asked_rows : (asked (Requests.Put (codes "abc")) ≡ counted 4 (32 ∷ codes "abc")) × (asked (Requests.Get 0 1 2) ≡ counted 25 (33 ∷ small 0 ++ small 1 ++ small 2)) × (asked Requests.Quit ≡ counted 1 (13 ∷ []))
unfolding frame_of field counted small
asked_rows = (refl, refl, refl)

kept_said : said (Replies.Kept 0) ≡ counted 9 (160 ∷ small 0)
unfolding frame_of field counted small
kept_said = refl

given_said : (said (Replies.Given (codes "bc")) ≡ counted 3 (161 ∷ codes "bc")) × (said Replies.Bye ≡ counted 1 (141 ∷ []))
unfolding frame_of counted
given_said = (refl, refl)

no_page_said : said (Replies.Refused (Faults.NoPage 1)) ≡ counted 17 (255 ∷ small 23 ++ small 1)
unfolding frame_of field counted small
no_page_said = refl

past_page_said : said (Replies.Refused (Faults.PastPage 4 3)) ≡ counted 33 (255 ∷ small 24 ++ small 0 ++ small 4 ++ small 3)
unfolding frame_of field wide_field counted small
past_page_said = refl

short_refusals_said : (said (Replies.Refused Faults.NoMemory) ≡ counted 9 (255 ∷ small 9)) × (said (Replies.Refused Faults.EmptyUpdate) ≡ counted 9 (255 ∷ small 10)) × (said (Replies.Refused Faults.BadFrame) ≡ counted 9 (255 ∷ small 19))
unfolding frame_of field counted small
short_refusals_said = (refl, refl, refl)

long_refusals_said : (said (Replies.Refused (Faults.UpdateTooLong 5)) ≡ counted 17 (255 ∷ small 11 ++ small 5)) × (said (Replies.Refused (Faults.FrameTooLong 5)) ≡ counted 17 (255 ∷ small 18 ++ small 5))
unfolding frame_of field counted small
long_refusals_said = (refl, refl)
