use Rattle.soc_edge.proofs.Disks.{MayTear-behind-looks, MayTear-looks, Looks-append}
use Rattle.soc_journal.proofs.Options.{IfSome-always}
use Rattle.soc_journal.proofs.Ranges.{WhereTold-same}
use Rattle.soc_journal.proofs.journal.Journal.open.Goals as goal

pub returns-in_err-create-clause-tears : goal.returns-in_err-create-clause-tears
returns-in_err-create-clause-tears g c = MayTear-behind-looks _ _ _ _ _ c.synced_len.ensures.disk_stays c.create.ensures.tears

pub returns-then-length-eq0-clause-tears : goal.returns-then-length-eq0-clause-tears
returns-then-length-eq0-clause-tears g c = MayTear-behind-looks _ _ _ _ _ c.synced_len.ensures.disk_stays c.create.ensures.tears

pub returns-in_err-length-clause-tears : goal.returns-in_err-length-clause-tears
returns-in_err-length-clause-tears g c = MayTear-looks _ _ _ _ c.synced_len.ensures.disk_stays

pub returns-in_err-length-clause-torn : goal.returns-in_err-length-clause-torn
returns-in_err-length-clause-torn g c = WhereTold-same _ _ _ _ c.synced_len.ensures.disk_stays.same

pub returns-in_err-length-clause-disk_stays : goal.returns-in_err-length-clause-disk_stays
returns-in_err-length-clause-disk_stays g c = IfSome-always (g.D.Disk.state c.args.disk.now).content _ (λ _ _. c.synced_len.ensures.disk_stays)

pub returns-in_err-version-clause-tears : goal.returns-in_err-version-clause-tears
returns-in_err-version-clause-tears g c = MayTear-looks _ _ _ _ (Looks-append _ _ _ c.synced_len.ensures.disk_stays c.version_at.ensures.disk_stays)

pub returns-in_err-version-clause-torn : goal.returns-in_err-version-clause-torn
returns-in_err-version-clause-torn g c = WhereTold-same _ _ _ _ (Looks-append _ _ _ c.synced_len.ensures.disk_stays c.version_at.ensures.disk_stays).same

pub returns-in_err-version-clause-disk_stays : goal.returns-in_err-version-clause-disk_stays
returns-in_err-version-clause-disk_stays g c = IfSome-always (g.D.Disk.state c.args.disk.now).content _ (λ _ _. Looks-append _ _ _ c.synced_len.ensures.disk_stays c.version_at.ensures.disk_stays)

pub returns-in_default-clause-tears : goal.returns-in_default-clause-tears
returns-in_default-clause-tears g c = MayTear-looks _ _ _ _ (Looks-append _ _ _ c.synced_len.ensures.disk_stays c.version_at.ensures.disk_stays)

pub returns-in_default-clause-torn : goal.returns-in_default-clause-torn
returns-in_default-clause-torn g c = WhereTold-same _ _ _ _ (Looks-append _ _ _ c.synced_len.ensures.disk_stays c.version_at.ensures.disk_stays).same

pub returns-in_default-clause-disk_stays : goal.returns-in_default-clause-disk_stays
returns-in_default-clause-disk_stays g c = IfSome-always (g.D.Disk.state c.args.disk.now).content _ (λ _ _. Looks-append _ _ _ c.synced_len.ensures.disk_stays c.version_at.ensures.disk_stays)

pub returns-clause-tears : goal.returns-clause-tears
returns-clause-tears g c = MayTear-looks _ _ _ _ (Looks-append _ _ _ c.synced_len.ensures.disk_stays c.version_at.ensures.disk_stays)

pub returns-clause-torn : goal.returns-clause-torn
returns-clause-torn g c = WhereTold-same _ _ _ _ (Looks-append _ _ _ c.synced_len.ensures.disk_stays c.version_at.ensures.disk_stays).same

pub returns-clause-disk_stays : goal.returns-clause-disk_stays
returns-clause-disk_stays g c = IfSome-always (g.D.Disk.state c.args.disk.now).content _ (λ _ _. Looks-append _ _ _ c.synced_len.ensures.disk_stays c.version_at.ensures.disk_stays)
