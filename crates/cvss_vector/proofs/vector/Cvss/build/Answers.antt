use Rattle.cvss_vector.proofs.SettingLemmas.{denoted_built, scored_built}
use Rattle.cvss_vector.specs.declared.setting.Version.TheVariants.{V20, V30, V31, V40}
use Rattle.cvss_vector.proofs.vector.Cvss.build.Goals as goal

pub returns-in-V20 : goal.returns-in-V20
returns-in-V20 c =
    let is = c.build_version.ensures in
    rw c.in-V20.is (record { accepted = is.accepted; accepts = is.accepts; scored = scored_built V20 c.args.metrics.now _ is.accepted; denoted = denoted_built V20 c.args.metrics.now _ is.accepted; rejected = is.rejected; rejects = is.rejects; bound = is.bound })

pub returns-in-V30 : goal.returns-in-V30
returns-in-V30 c =
    let is = c.build_version-in-V30.ensures in
    rw c.in-V30.is (record { accepted = is.accepted; accepts = is.accepts; scored = scored_built V30 c.args.metrics.now _ is.accepted; denoted = denoted_built V30 c.args.metrics.now _ is.accepted; rejected = is.rejected; rejects = is.rejects; bound = is.bound })

pub returns-in-V31 : goal.returns-in-V31
returns-in-V31 c =
    let is = c.build_version-in-V31.ensures in
    rw c.in-V31.is (record { accepted = is.accepted; accepts = is.accepts; scored = scored_built V31 c.args.metrics.now _ is.accepted; denoted = denoted_built V31 c.args.metrics.now _ is.accepted; rejected = is.rejected; rejects = is.rejects; bound = is.bound })

pub returns-in-V40 : goal.returns-in-V40
returns-in-V40 c =
    let is = c.build_version-in-V40.ensures in
    rw c.in-V40.is (record { accepted = is.accepted; accepts = is.accepts; scored = scored_built V40 c.args.metrics.now _ is.accepted; denoted = denoted_built V40 c.args.metrics.now _ is.accepted; rejected = is.rejected; rejects = is.rejects; bound = is.bound })
