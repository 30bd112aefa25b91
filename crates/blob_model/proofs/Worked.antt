-- Worked rows, computed from the definitions alone. The tests of lines, frames and sessions go through the same rows.
use Rattle.std.specs.Prelude.{◌≡◌, List, [], ◌∷◌, refl}
use Rattle.blob_model.specs.Limits.{Bounds, greatest}
use Rattle.blob_model.specs.Store.{Store, empty_store}
use Rattle.blob_model.specs.Answer.{answer}
use Rattle.blob_model.specs.declared.call.Place.TheVariants.{WriteAt, Append}
use Rattle.blob_model.specs.declared.call.Call.{Call}
use Rattle.blob_model.specs.declared.call.Call.TheVariants as Calls
use Rattle.blob_model.specs.declared.call.Outcome.{Outcome}
use Rattle.blob_model.specs.declared.call.Outcome.TheVariants as Outcomes
use Rattle.blob_model.specs.declared.call.Refusal.TheVariants as Refusals

outcomes_from : Store → List Call → List Outcome
outcomes_from s [] = []
outcomes_from s (c ∷ cs) = (answer s 1 c).1 ∷ outcomes_from (answer s 1 c).0 cs

outcomes : List Call → List Outcome
outcomes calls = outcomes_from (empty_store greatest) calls

-- an append of six bytes, read whole
stored_run : outcomes (Calls.Create ∷ Calls.Assign 1 Append (97 ∷ 98 ∷ 99 ∷ 100 ∷ 101 ∷ 102 ∷ []) ∷ Calls.Finish 1 1 ∷ Calls.Read 1 1 0 6 ∷ [])
    ≡ Outcomes.Blob 1 ∷ Outcomes.Assigned 1 0 6 ∷ Outcomes.Published 1 ∷ Outcomes.Content (97 ∷ 98 ∷ 99 ∷ 100 ∷ 101 ∷ 102 ∷ []) ∷ []
unfolding outcomes outcomes_from
stored_run = refl

-- a second append, a read over the end of the first, and the first version as it was
older_version_stays : outcomes
    (Calls.Create ∷ Calls.Assign 1 Append (97 ∷ 98 ∷ 99 ∷ 100 ∷ 101 ∷ 102 ∷ []) ∷ Calls.Finish 1 1
    ∷ Calls.Assign 1 Append (88 ∷ 89 ∷ []) ∷ Calls.Finish 1 2 ∷ Calls.Read 1 2 4 4 ∷ Calls.Read 1 1 0 6 ∷ [])
    ≡ Outcomes.Blob 1 ∷ Outcomes.Assigned 1 0 6 ∷ Outcomes.Published 1
    ∷ Outcomes.Assigned 2 6 8 ∷ Outcomes.Published 2
    ∷ Outcomes.Content (101 ∷ 102 ∷ 88 ∷ 89 ∷ []) ∷ Outcomes.Content (97 ∷ 98 ∷ 99 ∷ 100 ∷ 101 ∷ 102 ∷ []) ∷ []
unfolding outcomes outcomes_from
older_version_stays = refl

-- an append of 31 bytes after one of one byte
unaligned_append : outcomes
    (Calls.Create ∷ Calls.Assign 1 Append (0 ∷ []) ∷ Calls.Finish 1 1
    ∷ Calls.Assign 1 Append (1 ∷ 2 ∷ 3 ∷ 4 ∷ 5 ∷ 6 ∷ 7 ∷ 8 ∷ 9 ∷ 10 ∷ 11 ∷ 12 ∷ 13 ∷ 14 ∷ 15 ∷ 16 ∷ 17 ∷ 18 ∷ 19 ∷ 20 ∷ 21 ∷ 22 ∷ 23 ∷ 24 ∷ 25 ∷ 26 ∷ 27 ∷ 28 ∷ 29 ∷ 30 ∷ 31 ∷ [])
    ∷ Calls.Finish 1 2 ∷ Calls.Read 1 2 0 32 ∷ [])
    ≡ Outcomes.Blob 1 ∷ Outcomes.Assigned 1 0 1 ∷ Outcomes.Published 1 ∷ Outcomes.Assigned 2 1 32 ∷ Outcomes.Published 2
    ∷ Outcomes.Content (0 ∷ 1 ∷ 2 ∷ 3 ∷ 4 ∷ 5 ∷ 6 ∷ 7 ∷ 8 ∷ 9 ∷ 10 ∷ 11 ∷ 12 ∷ 13 ∷ 14 ∷ 15 ∷ 16 ∷ 17 ∷ 18 ∷ 19 ∷ 20 ∷ 21 ∷ 22 ∷ 23 ∷ 24 ∷ 25 ∷ 26 ∷ 27 ∷ 28 ∷ 29 ∷ 30 ∷ 31 ∷ []) ∷ []
unfolding outcomes outcomes_from
unaligned_append = refl

three_appends : outcomes
    (Calls.Create ∷ Calls.Assign 1 Append (97 ∷ 98 ∷ 99 ∷ 100 ∷ []) ∷ Calls.Finish 1 1 ∷ Calls.Assign 1 Append (101 ∷ 102 ∷ 103 ∷ 104 ∷ []) ∷ Calls.Finish 1 2
    ∷ Calls.Assign 1 Append (105 ∷ []) ∷ Calls.Finish 1 3 ∷ Calls.Read 1 3 0 9 ∷ [])
    ≡ Outcomes.Blob 1 ∷ Outcomes.Assigned 1 0 4 ∷ Outcomes.Published 1 ∷ Outcomes.Assigned 2 4 8 ∷ Outcomes.Published 2 ∷ Outcomes.Assigned 3 8 9 ∷ Outcomes.Published 3
    ∷ Outcomes.Content (97 ∷ 98 ∷ 99 ∷ 100 ∷ 101 ∷ 102 ∷ 103 ∷ 104 ∷ 105 ∷ []) ∷ []
unfolding outcomes outcomes_from
three_appends = refl

-- two writes over an append: the last to be numbered lies on top
writes_replace : outcomes
    (Calls.Create ∷ Calls.Assign 1 Append (97 ∷ 98 ∷ 99 ∷ 100 ∷ []) ∷ Calls.Finish 1 1 ∷ Calls.Assign 1 (WriteAt 0) (255 ∷ []) ∷ Calls.Finish 1 2
    ∷ Calls.Assign 1 (WriteAt 1) (254 ∷ []) ∷ Calls.Finish 1 3 ∷ Calls.Read 1 3 0 4 ∷ [])
    ≡ Outcomes.Blob 1 ∷ Outcomes.Assigned 1 0 4 ∷ Outcomes.Published 1 ∷ Outcomes.Assigned 2 0 4 ∷ Outcomes.Published 2 ∷ Outcomes.Assigned 3 1 4 ∷ Outcomes.Published 3
    ∷ Outcomes.Content (255 ∷ 254 ∷ 99 ∷ 100 ∷ []) ∷ []
unfolding outcomes outcomes_from
writes_replace = refl

no_blob : outcomes (Calls.Read 1 0 0 0 ∷ []) ≡ Outcomes.Refused (Refusals.NoBlob 1) ∷ []
unfolding outcomes outcomes_from
no_blob = refl

-- version 0 of a new blob is empty and published
new_blob : outcomes (Calls.Create ∷ Calls.Read 1 0 0 0 ∷ Calls.Size 1 0 ∷ Calls.Recent 1 ∷ Calls.Status 1 ∷ [])
    ≡ Outcomes.Blob 1 ∷ Outcomes.Content [] ∷ Outcomes.Size 0 ∷ Outcomes.Recent 0 0 ∷ Outcomes.Status 0 0 0 ∷ []
unfolding outcomes outcomes_from
new_blob = refl

-- a finish out of order: nothing is published until version 1 is finished, and then both are
finish_out_of_order : outcomes
    (Calls.Create ∷ Calls.Assign 1 Append (170 ∷ []) ∷ Calls.Assign 1 Append (187 ∷ []) ∷ Calls.Finish 1 2 ∷ Calls.Status 1 ∷ Calls.Read 1 2 0 2
    ∷ Calls.Finish 1 1 ∷ Calls.Read 1 2 0 2 ∷ Calls.Finish 1 1 ∷ [])
    ≡ Outcomes.Blob 1 ∷ Outcomes.Assigned 1 0 1 ∷ Outcomes.Assigned 2 1 2 ∷ Outcomes.Published 0 ∷ Outcomes.Status 2 0 1 ∷ Outcomes.Refused (Refusals.NotPublished 2 0)
    ∷ Outcomes.Published 2 ∷ Outcomes.Content (170 ∷ 187 ∷ []) ∷ Outcomes.Refused (Refusals.Already 1) ∷ []
unfolding outcomes outcomes_from
finish_out_of_order = refl

-- a waiting version, a version that wasn't numbered, and a published one
sync_looks : outcomes
    (Calls.Create ∷ Calls.Assign 1 Append (170 ∷ []) ∷ Calls.Assign 1 Append (187 ∷ []) ∷ Calls.Finish 1 2
    ∷ Calls.Sync 1 2 ∷ Calls.Sync 1 3 ∷ Calls.Finish 1 1 ∷ Calls.Sync 1 2 ∷ [])
    ≡ Outcomes.Blob 1 ∷ Outcomes.Assigned 1 0 1 ∷ Outcomes.Assigned 2 1 2 ∷ Outcomes.Published 0
    ∷ Outcomes.Refused (Refusals.Pending 2 1) ∷ Outcomes.Refused (Refusals.NotPublished 3 0) ∷ Outcomes.Published 2 ∷ Outcomes.Synced 2 ∷ []
unfolding outcomes outcomes_from
sync_looks = refl

-- an offset at the size, and one past it
offsets : outcomes
    (Calls.Create ∷ Calls.Assign 1 Append (97 ∷ 98 ∷ 99 ∷ 100 ∷ 101 ∷ 102 ∷ []) ∷ Calls.Assign 1 (WriteAt 7) (255 ∷ []) ∷ Calls.Assign 1 (WriteAt 6) (255 ∷ []) ∷ [])
    ≡ Outcomes.Blob 1 ∷ Outcomes.Assigned 1 0 6 ∷ Outcomes.Refused (Refusals.OffsetPastSize 7 6) ∷ Outcomes.Assigned 2 6 7 ∷ []
unfolding outcomes outcomes_from
offsets = refl

-- reads past the size, also past the numbers of 64 bits, and reads of nothing
ranges : outcomes
    (Calls.Create ∷ Calls.Assign 1 Append (97 ∷ 98 ∷ 99 ∷ 100 ∷ 101 ∷ 102 ∷ []) ∷ Calls.Finish 1 1
    ∷ Calls.Read 1 1 0 7 ∷ Calls.Read 1 1 18446744073709551615 1 ∷ Calls.Read 1 1 6 0 ∷ Calls.Read 1 1 7 0 ∷ [])
    ≡ Outcomes.Blob 1 ∷ Outcomes.Assigned 1 0 6 ∷ Outcomes.Published 1
    ∷ Outcomes.Refused (Refusals.RangePastSize 7 6) ∷ Outcomes.Refused (Refusals.RangePastSize 18446744073709551616 6) ∷ Outcomes.Content [] ∷ Outcomes.Refused (Refusals.RangePastSize 7 6) ∷ []
unfolding outcomes outcomes_from
ranges = refl

-- a branch shares the versions up to its own beginning, and goes its own way from there
branch_at_one : outcomes
    (Calls.Create ∷ Calls.Assign 1 Append (97 ∷ 98 ∷ 99 ∷ 100 ∷ 101 ∷ 102 ∷ []) ∷ Calls.Finish 1 1 ∷ Calls.Assign 1 Append (88 ∷ 89 ∷ []) ∷ Calls.Finish 1 2
    ∷ Calls.Branch 1 1 ∷ Calls.Assign 2 Append (90 ∷ []) ∷ Calls.Finish 2 2 ∷ Calls.Read 1 2 0 8 ∷ Calls.Read 2 2 0 7 ∷ [])
    ≡ Outcomes.Blob 1 ∷ Outcomes.Assigned 1 0 6 ∷ Outcomes.Published 1 ∷ Outcomes.Assigned 2 6 8 ∷ Outcomes.Published 2
    ∷ Outcomes.Blob 2 ∷ Outcomes.Assigned 2 6 7 ∷ Outcomes.Published 2
    ∷ Outcomes.Content (97 ∷ 98 ∷ 99 ∷ 100 ∷ 101 ∷ 102 ∷ 88 ∷ 89 ∷ []) ∷ Outcomes.Content (97 ∷ 98 ∷ 99 ∷ 100 ∷ 101 ∷ 102 ∷ 90 ∷ []) ∷ []
unfolding outcomes outcomes_from
branch_at_one = refl

-- a waiting version isn't branched, nor is a blob that isn't there
branch_refused : outcomes
    (Calls.Create ∷ Calls.Assign 1 Append (97 ∷ []) ∷ Calls.Finish 1 1 ∷ Calls.Assign 1 Append (88 ∷ []) ∷ Calls.Branch 1 2 ∷ Calls.Branch 9 0 ∷ [])
    ≡ Outcomes.Blob 1 ∷ Outcomes.Assigned 1 0 1 ∷ Outcomes.Published 1 ∷ Outcomes.Assigned 2 1 2
    ∷ Outcomes.Refused (Refusals.NotPublished 2 1) ∷ Outcomes.Refused (Refusals.NoBlob 9) ∷ []
unfolding outcomes outcomes_from
branch_refused = refl

-- each limit in its turn
small : Bounds
small = record { max_size = 8; max_versions = 2; max_open = 64; max_blobs = 1 }

limits_refuse : outcomes_from (empty_store small)
    (Calls.Create ∷ Calls.Assign 1 Append (97 ∷ 98 ∷ 99 ∷ 100 ∷ 101 ∷ 102 ∷ []) ∷ Calls.Finish 1 1 ∷ Calls.Assign 1 Append (88 ∷ 89 ∷ 96 ∷ []) ∷ Calls.Assign 1 Append (88 ∷ []) ∷ Calls.Finish 1 2
    ∷ Calls.Assign 1 Append (89 ∷ []) ∷ Calls.Create ∷ Calls.Branch 1 0 ∷ [])
    ≡ Outcomes.Blob 1 ∷ Outcomes.Assigned 1 0 6 ∷ Outcomes.Published 1 ∷ Outcomes.Refused (Refusals.BlobTooBig 9 8) ∷ Outcomes.Assigned 2 6 7 ∷ Outcomes.Published 2
    ∷ Outcomes.Refused (Refusals.TooManyVersions 2) ∷ Outcomes.Refused (Refusals.TooManyBlobs 1) ∷ Outcomes.Refused (Refusals.TooManyBlobs 1) ∷ []
unfolding outcomes outcomes_from small
limits_refuse = refl

-- too many waiting updates: a finished one that a lower one holds back is waiting too
few_open : Bounds
few_open = record { max_size = 8; max_versions = 8; max_open = 2; max_blobs = 1 }

waiting_refuse : outcomes_from (empty_store few_open)
    (Calls.Create ∷ Calls.Assign 1 Append (170 ∷ []) ∷ Calls.Assign 1 Append (187 ∷ []) ∷ Calls.Assign 1 Append (204 ∷ []) ∷ Calls.Finish 1 2 ∷ Calls.Assign 1 Append (204 ∷ []) ∷ [])
    ≡ Outcomes.Blob 1 ∷ Outcomes.Assigned 1 0 1 ∷ Outcomes.Assigned 2 1 2 ∷ Outcomes.Refused (Refusals.TooManyOpen 2) ∷ Outcomes.Published 0 ∷ Outcomes.Refused (Refusals.TooManyOpen 2) ∷ []
unfolding outcomes outcomes_from few_open
waiting_refuse = refl
