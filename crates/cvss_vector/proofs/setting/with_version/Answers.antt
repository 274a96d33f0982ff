use Rattle.cvss_vector.proofs.SettingLemmas.{answered_err, answered_ok}
use Rattle.cvss_vector.proofs.setting.with_version.Goals as goal

pub returns-in-Ok : goal.returns-in-Ok
returns-in-Ok g c = rw c.join.ensures (answered_ok (g.V.OneVersion.joined c.args.said) g.V.OneVersion.wrap c.in-Ok.new c.in-Ok.ensures)

pub returns-in-Err : goal.returns-in-Err
returns-in-Err g c = answered_err (g.V.OneVersion.joined c.args.said) g.V.OneVersion.wrap c.in-Err.index c.in-Err.fault c.of_version.result c.of_version.ensures.is c.requires.few c.in-Err.ensures
