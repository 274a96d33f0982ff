-- The explanations of the scores of CVSS v2: guide, section 3.2.
use Rattle.std.specs.Prelude.{◌≡◌, ℕ, ◌*◌, pos, List, [], ◌∷◌, ◌++◌, flat_map, map, Option}
use Rattle.std.specs.List.{filter_map}
use Rattle.cvss_base.specs.Exact.{tenths, thousandths}
use Rattle.cvss_base.specs.V2Types.{description_of, name_of}
use Rattle.cvss_base.specs.declared.v2.MetricType.{MetricType}
use Rattle.cvss_base.specs.declared.v2.MetricType.TheVariants.{A, AC, AR, AV, Au, C, CDP, CR, E, I, IR, RC, RL, TD}
use Rattle.cvss_explain.specs.Lines.{metric_text}
use Rattle.cvss_explain.specs.Near.{IsNear, IsNearOf, IsTenth}
use Rattle.cvss_explain.specs.Parts.{ways_text}
use Rattle.cvss_explain.specs.Steps.{AreSteps, IsNumber, IsScore, entry_member, ways_lines}
use Rattle.cvss_explain.specs.declared.object.Entry.{Entry}
use Rattle.cvss_explain.specs.declared.object.Entry.TheVariants.{Value}
use Rattle.cvss_explain.specs.declared.step.Amount.TheVariants.{Rated}
use Rattle.cvss_explain.specs.declared.step.Quantity.TheVariants.{Impact, Exploitability, Factor, BeforeRounding, BaseScore, TemporalScore, AdjustedImpact, AdjustedBase, AdjustedTemporal, EnvironmentalScore}
use Rattle.cvss_explain.specs.declared.step.Step.{Step}
use Rattle.cvss_explain.specs.declared.v2.steps.Steps.{Steps}
use Rattle.cvss_json.specs.Json.{Member, decimal_text}
use Rattle.cvss_metric.specs.v2.Table.{printed}
use Rattle.cvss_report.specs.Groups.{has_group}
use Rattle.cvss_report.specs.WordsV2.{words_of}
use Rattle.cvss_score.specs.declared.v2.weights.Weights.{Weights}
use Rattle.cvss_score.specs.v2.Scores as scores
use Rattle.cvss_vector.specs.declared.group.Group.TheVariants.{Temporal, Environmental}
use Rattle.cvss_vector.specs.declared.published.Bounds.TheVariants.{OfV2}
use Rattle.cvss_vector.specs.declared.v2.vector.Vector.{Vector}
use Rattle.cvss_vector.specs.declared.vector.Cvss.{Cvss}
use Rattle.cvss_vector.specs.declared.vector.Cvss.TheVariants.{CvssV20}
use Rattle.cvss_vector.specs.v2.Vector.{v2}
use Rattle.cvss_vector.specs.v2.Weights.{weight_in, weights_of}

-- the steps to the base score
abbrev pub base_steps : Weights → List (Step → Type 0)
base_steps w =
    IsNumber Impact (IsNear (scores.impact w))
    ∷ IsNumber Exploitability (IsNear (scores.exploitability w))
    ∷ IsNumber Factor (IsNear (scores.f (scores.impact w)))
    ∷ IsNumber BeforeRounding (IsNear (scores.base_number (scores.impact w) (scores.exploitability w)))
    ∷ IsScore BaseScore (Rated OfV2) (scores.IsBaseScore w)
    ∷ []

-- the steps to the temporal score, which is made of the base score before that is raised to 0
abbrev pub temporal_steps : Weights → List (Step → Type 0)
temporal_steps w =
    IsNumber BeforeRounding (IsNearOf (scores.IsBase w (scores.impact w))
    (λ base. scores.temporal_number (tenths base) (thousandths w.e) (thousandths w.rl) (thousandths w.rc)))
    ∷ IsScore TemporalScore (Rated OfV2) (scores.IsTemporalScore w)
    ∷ []

-- the steps to the environmental score
abbrev pub environmental_steps : Weights → List (Step → Type 0)
environmental_steps w =
    IsNumber AdjustedImpact (IsNear (scores.adjusted_impact w))
    ∷ IsNumber AdjustedBase (IsTenth (scores.IsBase w (scores.adjusted_impact w)))
    ∷ IsNumber AdjustedTemporal (IsTenth (scores.IsTemporal w (scores.adjusted_impact w)))
    ∷ IsNumber BeforeRounding (IsNearOf (scores.IsTemporal w (scores.adjusted_impact w))
    (λ temporal. scores.environmental_number (tenths temporal) (thousandths w.cdp) (thousandths w.td)))
    ∷ IsScore EnvironmentalScore (Rated OfV2) (scores.IsEnvironmentalScore w)
    ∷ []

pub record AreStepsOf (w : Weights) (steps : Steps) : Type 0 where
  pub base : AreSteps (base_steps w) steps.base
  pub temporal : AreSteps (temporal_steps w) steps.temporal
  pub environmental : AreSteps (environmental_steps w) steps.environmental

-- the members of the objects of steps, in the order of their names
abbrev pub base_entries : List Entry
base_entries = Value 1 ∷ Value 2 ∷ Value 0 ∷ Value 3 ∷ Value 4 ∷ []

abbrev pub temporal_entries : List Entry
temporal_entries = Value 0 ∷ Value 1 ∷ []

abbrev pub environmental_entries : List Entry
environmental_entries = Value 1 ∷ Value 0 ∷ Value 2 ∷ Value 3 ∷ Value 4 ∷ []

-- the metrics, in the order of their names
abbrev pub by_name : List MetricType
by_name = A ∷ AC ∷ AR ∷ AV ∷ Au ∷ C ∷ CDP ∷ CR ∷ E ∷ I ∷ IR ∷ RC ∷ RL ∷ TD ∷ []

-- what a metric weighs, which is thousandths
abbrev pub weight_text : Vector → MetricType → List ℕ
weight_text vector kind = decimal_text (pos (weight_in vector kind * 10_000))

abbrev pub weight_member : Vector → MetricType → Member
weight_member vector kind = (name_of kind, weight_text vector kind)

-- what each metric weighs
abbrev pub weights_members : Vector → List Member
weights_members vector = map (weight_member vector) by_name

-- the text explains the vector's score, of so many tenths, as an object
pub record IsExplanationText (line : Option ℕ) (cvss : Cvss) (vector : Vector) (tenths : ℕ) (text : List ℕ) : Type 0 where
  pub steps : Steps
  pub are : AreStepsOf (weights_of vector) steps
  pub is : text ≡ ways_text line cvss tenths
      (filter_map (entry_member steps.base) base_entries)
      (filter_map (entry_member steps.temporal) temporal_entries)
      (filter_map (entry_member steps.environmental) environmental_entries)
      [] (weights_members vector)

-- the lines after the heading: the metrics, and the steps to each score whose metrics the vector has
abbrev pub lines_text : Vector → Steps → List ℕ
lines_text vector steps =
    flat_map (metric_text v2 description_of words_of (weight_text vector) vector) printed
    ++ ways_lines steps.base (has_group (CvssV20 vector) Temporal) steps.temporal (has_group (CvssV20 vector) Environmental) steps.environmental

-- the lines explain the vector's scores
pub record AreLines (vector : Vector) (text : List ℕ) : Type 0 where
  pub steps : Steps
  pub are : AreStepsOf (weights_of vector) steps
  pub is : text ≡ lines_text vector steps
