pub mod BytesErrors
pub mod JsonErrors
pub use Rattle.cvss_laws.specs.base.Errors
pub use Rattle.cvss_base.specs.laws.Order
pub use Rattle.cvss_laws.specs.base.Severities
pub use Rattle.cvss_base.specs.laws.Rounding as RoundingLaws
pub use Rattle.cvss_laws.specs.any.GivenBack
pub use Rattle.cvss_laws.specs.any.Severity as SeverityLaws
pub use Rattle.cvss_laws.specs.v2.NegativeBase as NegativeBaseV2
pub use Rattle.cvss_laws.specs.v2.NotDefined as ScoreLawsV2
pub use Rattle.cvss_laws.specs.v2.Severity as SeverityV2
pub use Rattle.cvss_laws.specs.v3.ScoreLaws as ScoreLawsV3
pub use Rattle.cvss_laws.specs.v3.Severity as SeverityV3
pub use Rattle.cvss_laws.specs.v4.ClassLaws as ClassLawsV4
pub use Rattle.cvss_laws.specs.v4.Maximal as MaximalV4
pub use Rattle.cvss_laws.specs.v4.ScoreLaws as ScoreLawsV4
pub use Rattle.cvss_laws.specs.v4.Severity as SeverityV4
pub use Rattle.cvss_laws.specs.v4.MergingLaws as MergingLawsV4
pub use Rattle.cvss_laws.specs.v4.OverridingLaws as OverridingLawsV4
