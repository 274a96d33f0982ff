pub mod Json
pub mod MetricsV2
pub mod MetricsV3
pub mod MetricsV4
pub mod ReadingV4
pub mod SpellingsV4
pub mod laws
pub mod private
pub use Rattle.cvss_vector.specs.Answers
pub use Rattle.cvss_vector.specs.Bytes
pub use Rattle.cvss_vector.specs.Dispatch
pub use Rattle.cvss_vector.specs.Evaluation
pub use Rattle.cvss_vector.specs.MetricTypes
pub use Rattle.cvss_vector.specs.MetricsLeft
pub use Rattle.cvss_vector.specs.Published
pub use Rattle.cvss_vector.specs.Scores
pub use Rattle.cvss_vector.specs.declared.vector.Cvss as CvssType
pub use Rattle.cvss_vector.specs.declared.bytes_error.BytesError as BytesErrorType
pub use Rattle.cvss_vector.specs.declared.published.Bounds as BoundsType
pub use Rattle.cvss_vector.specs.declared.published.Published as PublishedType
pub use Rattle.cvss_vector.specs.declared.evaluation.Evaluation as EvaluationType
pub use Rattle.cvss_vector.specs.declared.evaluation.Rated as RatedType
pub use Rattle.cvss_vector.specs.declared.group.Group as GroupType
pub use Rattle.cvss_vector.specs.declared.scoring.Scoring as ScoringType
pub use Rattle.cvss_vector.specs.declared.metric_type.MetricType as MetricTypeAny
pub use Rattle.cvss_base.specs.Equality
pub use Rattle.cvss_base.specs.ErrorText
pub use Rattle.cvss_base.specs.Exact
pub use Rattle.cvss_base.specs.Groups
pub use Rattle.cvss_text.specs.Listing
pub use Rattle.cvss_base.specs.SeverityScale
pub use Rattle.cvss_base.specs.Rejection
pub use Rattle.cvss_base.specs.Rounding
pub use Rattle.cvss_base.specs.SeverityText
pub use Rattle.cvss_base.specs.Tenths
pub use Rattle.cvss_base.specs.Text
pub use Rattle.cvss_base.specs.Reported
pub use Rattle.cvss_base.specs.V2Types as TypesV2
pub use Rattle.cvss_base.specs.V3Types as TypesV3
pub use Rattle.cvss_base.specs.V4Types as TypesV4
pub use Rattle.cvss_base.specs.Version
pub use Rattle.cvss_base.specs.declared.error.Error as ErrorType
pub use Rattle.cvss_base.specs.declared.group.MetricGroup as MetricGroupType
pub use Rattle.cvss_base.specs.declared.severity.Severity as SeverityType
pub use Rattle.cvss_base.specs.declared.v2.MetricType as MetricTypeV2
pub use Rattle.cvss_base.specs.declared.v3.MetricType as MetricTypeV3
pub use Rattle.cvss_base.specs.declared.v4.MetricType as MetricTypeV4
pub use Rattle.cvss_score.specs.AtMost
pub use Rattle.cvss_score.specs.v2.Bounds as BoundsV2
pub use Rattle.cvss_score.specs.v2.SeverityScale as RatingV2
pub use Rattle.cvss_score.specs.v2.Scores as ScoresV2
pub use Rattle.cvss_metric.specs.v2.Table as TableV2
pub use Rattle.cvss_vector.specs.v2.Vector as VectorV2
pub use Rattle.cvss_vector.specs.v2.Weights as WeightsV2
pub use Rattle.cvss_vector.specs.declared.v2.vector.Vector as VectorTypeV2
pub use Rattle.cvss_score.specs.declared.v2.weights.Weights as WeightsTypeV2
pub use Rattle.cvss_metric.specs.v3.Modified as ModifiedV3
pub use Rattle.cvss_metric.specs.v3.Table as TableV3
pub use Rattle.cvss_metric.specs.declared.v3.environmental.modified.Modified as ModifiedTypeV3
pub use Rattle.cvss_score.specs.v3.Bounds as BoundsV3
pub use Rattle.cvss_score.specs.v3.Certainty as CertaintyV3
pub use Rattle.cvss_score.specs.v3.Scores as ScoresV3
pub use Rattle.cvss_score.specs.v3.Weighing as WeighingV3
pub use Rattle.cvss_score.specs.declared.v3.weights.Weights as WeightsTypeV3
pub use Rattle.cvss_vector.specs.v3.Vector as VectorV3
pub use Rattle.cvss_vector.specs.v3.VectorWeights as WeightsV3
pub use Rattle.cvss_vector.specs.declared.v3.vector.Vector as VectorTypeV3
pub use Rattle.cvss_metric.specs.v4.Table as TableV4
pub use Rattle.cvss_score.specs.v4.AsSevere as AsSevereV4
pub use Rattle.cvss_score.specs.v4.Classes as ClassesV4
pub use Rattle.cvss_score.specs.v4.Distance as DistanceV4
pub use Rattle.cvss_score.specs.v4.Gap as GapV4
pub use Rattle.cvss_score.specs.v4.Scores as ScoresV4
pub use Rattle.cvss_score.specs.v4.Values as ValuesV4
pub use Rattle.cvss_score.specs.declared.v4.nomenclature.Nomenclature as NomenclatureTypeV4
pub use Rattle.cvss_score.specs.declared.v4.scoring.effective.Effective as EffectiveTypeV4
pub use Rattle.cvss_vector.specs.v4.Merging as MergingV4
pub use Rattle.cvss_vector.specs.v4.Nomenclature as NomenclatureV4
pub use Rattle.cvss_vector.specs.v4.Overriding as OverridingV4
pub use Rattle.cvss_vector.specs.v4.Vector as VectorV4
pub use Rattle.cvss_vector.specs.declared.v4.vector.Vector as VectorTypeV4
pub use Rattle.cvss_vector.specs.declared.v4.vector.overriding.OverrideError as OverrideErrorTypeV4
