-- The log of a disk in memory, by its entries and the bytes of their writes.
use Rattle.std.proofs.Common.{◌≡◌, inl, inr, ℕ, ◌+◌, ◌≤◌, List, [], ◌∷◌, ◌++◌, length, take, drop, refl, sym, ◌∙◌, ap, subst, arith}
use Rattle.std.proofs.lemmas.List.{length-take, length-drop, drop-drop, take-append-le, drop-append-le, drop_at, take_all}
use Rattle.soc_edge.specs.declared.memory.disk.DiskStep.{DiskStep}
use Rattle.soc_edge.specs.declared.memory.disk.DiskStep.TheVariants.{Write, Sync}
use Rattle.soc_edge.specs.Calls.{Calls}
use Rattle.soc_edge.specs.Disk.{written, GoesOn, Looks, MayTear}
use Rattle.soc_edge.specs.inner.DiskLaws.{Tears-written, IsImage-reads, IsDisk-told}
use Rattle.soc_edge.specs.DiskLog.{DiskState, disk_told, IsImage, Made, Wrote, Synced, reads_as, bytes_written}
use Rattle.soc_edge.proofs.Disks.{IsTorn-same}
use Rattle.soc_edge.specs.inner.DiskEntries.{bytes_of, AllEnd, made_by, bytes_after, log_of}

pub length-log_of : (log : List Made) (entries : List DiskStep) (bytes : List ℕ) → length (log_of log entries bytes) ≡ length log + length entries
length-log_of log [] bytes = omega arith
length-log_of log (entry ∷ entries) bytes = omega (arith, length-log_of (made_by entry bytes ∷ log) entries (bytes_after entry bytes))

pub bytes_written-log_of : (log : List Made) (entries : List DiskStep) (bytes : List ℕ) → bytes_of entries ≤ length bytes → bytes_written (log_of log entries bytes) ≡ bytes_written log + bytes_of entries
bytes_written-log_of log [] bytes within = omega arith
bytes_written-log_of log (Write place count ∷ entries) bytes within =
    let rest : bytes_of entries ≤ length (drop count bytes) = omega (arith, length-drop count bytes) in
    omega (arith, bytes_written-log_of (Wrote place (take count bytes) ∷ log) entries (drop count bytes) rest, length-take count bytes)
bytes_written-log_of log (Sync ∷ entries) bytes within = bytes_written-log_of (Synced ∷ log) entries bytes within

-- one more entry, whose bytes stand behind those of the entries before it
pub log_of-push : (log : List Made) (entries : List DiskStep) (entry : DiskStep) (bytes : List ℕ) → log_of log (entries ++ entry ∷ []) bytes ≡ made_by entry (drop (bytes_of entries) bytes) ∷ log_of log entries bytes
log_of-push log [] entry bytes = refl
log_of-push log (Write place count ∷ entries) entry bytes =
    log_of-push (Wrote place (take count bytes) ∷ log) entries entry (drop count bytes)
    ∙ ap (λ (x : List ℕ). made_by entry x ∷ log_of (Wrote place (take count bytes) ∷ log) entries (drop count bytes)) (drop-drop (bytes_of entries) count bytes)
log_of-push log (Sync ∷ entries) entry bytes = log_of-push (Synced ∷ log) entries entry bytes

-- bytes behind those of the entries don't count
pub log_of-more : (log : List Made) (entries : List DiskStep) (bytes more : List ℕ) → bytes_of entries ≤ length bytes → log_of log entries (bytes ++ more) ≡ log_of log entries bytes
log_of-more log [] bytes more within = refl
log_of-more log (Write place count ∷ entries) bytes more within =
    let low : count ≤ length bytes = omega arith in
    let rest : bytes_of entries ≤ length (drop count bytes) = omega (arith, length-drop count bytes) in
    ap (λ (x : List ℕ). log_of (Wrote place x ∷ log) entries (drop count (bytes ++ more))) (take-append-le count bytes more low)
    ∙ (ap (λ (x : List ℕ). log_of (Wrote place (take count bytes) ∷ log) entries x) (drop-append-le count bytes more low)
    ∙ log_of-more (Wrote place (take count bytes) ∷ log) entries (drop count bytes) more rest)
log_of-more log (Sync ∷ entries) bytes more within = log_of-more (Synced ∷ log) entries bytes more within

bytes_of-push_write : (entries : List DiskStep) (place count : ℕ) → bytes_of (entries ++ Write place count ∷ []) ≡ bytes_of entries + count
bytes_of-push_write [] place count = omega arith
bytes_of-push_write (Write p n ∷ entries) place count = omega (arith, bytes_of-push_write entries place count)
bytes_of-push_write (Sync ∷ entries) place count = bytes_of-push_write entries place count

bytes_of-push_sync : (entries : List DiskStep) → bytes_of (entries ++ Sync ∷ []) ≡ bytes_of entries
bytes_of-push_sync [] = refl
bytes_of-push_sync (Write p n ∷ entries) = omega (arith, bytes_of-push_sync entries)
bytes_of-push_sync (Sync ∷ entries) = bytes_of-push_sync entries

AllEnd-push_write : (room : ℕ) (entries : List DiskStep) (place count : ℕ) → AllEnd room entries → place + count ≤ room → AllEnd room (entries ++ Write place count ∷ [])
AllEnd-push_write room [] place count all one = (one, tt)
AllEnd-push_write room (Write p n ∷ entries) place count all one = (all.0, AllEnd-push_write room entries place count all.1 one)
AllEnd-push_write room (Sync ∷ entries) place count all one = AllEnd-push_write room entries place count all one

AllEnd-push_sync : (room : ℕ) (entries : List DiskStep) → AllEnd room entries → AllEnd room (entries ++ Sync ∷ [])
AllEnd-push_sync room [] all = tt
AllEnd-push_sync room (Write p n ∷ entries) all = (all.0, AllEnd-push_sync room entries all.1)
AllEnd-push_sync room (Sync ∷ entries) all = AllEnd-push_sync room entries all

pub log_of-settled : (entries more : List DiskStep) (bytes : List ℕ) → more ≡ entries ++ Sync ∷ [] → log_of [] more bytes ≡ Synced ∷ log_of [] entries bytes
log_of-settled entries more bytes is =
    ap (λ (x : List DiskStep). log_of [] x bytes) is ∙ log_of-push [] entries Sync bytes

-- a sync changes no byte
pub reads_as-settled : (first bytes : List ℕ) (entries more : List DiskStep) (written_bytes : List ℕ) → more ≡ entries ++ Sync ∷ [] → bytes ≡ reads_as first (log_of [] entries written_bytes) → bytes ≡ reads_as first (log_of [] more written_bytes)
reads_as-settled first bytes entries more written_bytes is reads =
    reads ∙ ap (λ (log : List Made). reads_as first log) (sym (log_of-settled entries more written_bytes is))

pub AllEnd-settled : (room : ℕ) (entries more : List DiskStep) → more ≡ entries ++ Sync ∷ [] → AllEnd room entries → AllEnd room more
AllEnd-settled room entries more is all =
    let P : List DiskStep → Type 0 = λ x. AllEnd room x in
    subst P (sym is) (AllEnd-push_sync room entries all)

pub bytes_of-settled : (entries more : List DiskStep) → more ≡ entries ++ Sync ∷ [] → bytes_of more ≡ bytes_of entries
bytes_of-settled entries more is = ap (λ (x : List DiskStep). bytes_of x) is ∙ bytes_of-push_sync entries

-- one more write, whose bytes stand behind the others
pub log_of-kept : (entries more : List DiskStep) (bytes more_bytes piece : List ℕ) (place : ℕ) → bytes_of entries ≡ length bytes → more ≡ entries ++ Write place (length piece) ∷ [] → more_bytes ≡ bytes ++ piece → log_of [] more more_bytes ≡ Wrote place piece ∷ log_of [] entries bytes
log_of-kept entries more bytes more_bytes piece place counted is bytes_are =
    let within : bytes_of entries ≤ length bytes = omega arith in
    let behind : drop (bytes_of entries) (bytes ++ piece) ≡ piece = drop_at bytes piece (bytes_of entries) (sym counted) in
    let all : take (length piece) piece ≡ piece = take_all (length piece) piece (omega arith) in
    ap (λ (x : List DiskStep). log_of [] x more_bytes) is
    ∙ (ap (λ (x : List ℕ). log_of [] (entries ++ Write place (length piece) ∷ []) x) bytes_are
    ∙ (log_of-push [] entries (Write place (length piece)) (bytes ++ piece)
    ∙ (ap (λ (x : List ℕ). Wrote place (take (length piece) x) ∷ log_of [] entries (bytes ++ piece)) behind
    ∙ (ap (λ (x : List ℕ). Wrote place x ∷ log_of [] entries (bytes ++ piece)) all
    ∙ ap (λ (log : List Made). Wrote place piece ∷ log) (log_of-more [] entries bytes piece within)))))

pub AllEnd-kept : (room : ℕ) (entries more : List DiskStep) (place count : ℕ) → more ≡ entries ++ Write place count ∷ [] → AllEnd room entries → place + count ≤ room → AllEnd room more
AllEnd-kept room entries more place count is all one =
    let P : List DiskStep → Type 0 = λ x. AllEnd room x in
    subst P (sym is) (AllEnd-push_write room entries place count all one)

pub bytes_of-kept : (entries more : List DiskStep) (place count : ℕ) → more ≡ entries ++ Write place count ∷ [] → bytes_of more ≡ bytes_of entries + count
bytes_of-kept entries more place count is = ap (λ (x : List DiskStep). bytes_of x) is ∙ bytes_of-push_write entries place count

-- a content after a write is no longer than what it ends at
pub length-written-le : (content : List ℕ) (place : ℕ) (bytes : List ℕ) (room : ℕ) → length content ≤ room → place + length bytes ≤ room → length (written content place bytes) ≤ room
length-written-le content place bytes room low ends = omega (arith, (Tears-written content place bytes).no_longer)

-- a call that makes nothing
pub Looks-calls : (before after : DiskState) (calls : Calls) → before.calls.failed ≤ calls.failed → after ≡ record before { calls = calls } → Looks (disk_told before) (disk_told after)
Looks-calls before after calls rises is =
    let P : DiskState → Type 0 = λ disk. Looks (disk_told before) (disk_told disk) in
    let same = IsDisk-told before in
    let looks : Looks (disk_told before) (disk_told (record before { calls = calls })) = record {
      same = refl;
      images = λ image left. left;
      any_moment = record { each = same.only_now };
      goes_on = record {
        later = omega arith;
        keeps = λ t image low left. left;
        nothing_else = λ t image low left. inl left;
        wider = same.wider;
        faults_never_fall = rises;
      };
    } in
    subst P (sym is) looks

-- a write or a sync
GoesOn-made : (before after : DiskState) (made : Made) → after ≡ record before { log = made ∷ before.log } → GoesOn (disk_told before) (disk_told after)
GoesOn-made before after made is =
    let P : DiskState → Type 0 = λ disk. GoesOn (disk_told before) (disk_told disk) in
    let more : DiskState = record before { log = made ∷ before.log } in
    let goes_on : GoesOn (disk_told before) (disk_told more) = record {
      later = omega arith;
      keeps = λ t image low left. inr left;
      nothing_else = λ t image low left. elim left [ inl now ↦ inr (inl (omega arith, now.1)) | inr past ↦ inl past ];
      wider = (IsDisk-told more).wider;
      faults_never_fall = omega arith;
    } in
    subst P (sym is) goes_on

-- after a sync the one image is one of those before it
pub Looks-synced : (before after : DiskState) → after ≡ record before { log = Synced ∷ before.log } → Looks (disk_told before) (disk_told after)
Looks-synced before after is =
    let P : DiskState → Type 0 = λ disk. Looks (disk_told before) (disk_told disk) in
    let more : DiskState = record before { log = Synced ∷ before.log } in
    let I : List ℕ → Type 0 = IsImage before.first before.log in
    let one : (image : List ℕ) → image ≡ reads_as before.first before.log → I image =
    λ image only. subst I (sym only) (IsImage-reads before.first before.log) in
    let looks : Looks (disk_told before) (disk_told more) = record {
      same = refl;
      images = one;
      any_moment = record { each = λ image left. elim left [ inl now ↦ one image now.1 | inr past ↦ (IsDisk-told before).only_now image past ] };
      goes_on = GoesOn-made before more Synced refl;
    } in
    subst P (sym is) looks

pub MayTear-wrote : (before after : DiskState) (place : ℕ) (bytes : List ℕ) → after ≡ record before { log = Wrote place bytes ∷ before.log } → MayTear place (length bytes) (disk_told before) (disk_told after)
MayTear-wrote before after place bytes is =
    let P : DiskState → Type 0 = λ disk. MayTear place (length bytes) (disk_told before) (disk_told disk) in
    let more : DiskState = record before { log = Wrote place bytes ∷ before.log } in
    let I : List ℕ → Type 0 = IsImage before.first before.log in
    let tears : MayTear place (length bytes) (disk_told before) (disk_told more) = record {
      images = λ image left. left;
      any_moment = record {
        each = λ image left. elim left [
          | inl now ↦ record { earlier = now.1.0; was = now.1.1; tears = now.1.2 }
          | inr past ↦ IsTorn-same I place (length bytes) image ((IsDisk-told before).only_now image past)
        ];
      };
      goes_on = GoesOn-made before more (Wrote place bytes) refl;
    } in
    subst P (sym is) tears
