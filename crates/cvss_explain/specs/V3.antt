-- The explanations of the scores of CVSS v3: v3.1 specification, section 7; v3.0 specification, section 8.
use Rattle.std.specs.Prelude.{◌≡◌, ℕ, ◌*◌, pos, ℤ, Bool, true, false, List, [], ◌∷◌, ◌++◌, codes, flat_map, Option, option_map}
use Rattle.std.specs.List.{filter_map}
use Rattle.std.specs.Option.{option_map_or}
use Rattle.cvss_base.specs.Tenths.{IsInTenths}
use Rattle.cvss_base.specs.V3Types.{description_of, name_of}
use Rattle.cvss_base.specs.declared.v3.MetricType.{MetricType}
use Rattle.cvss_base.specs.declared.v3.MetricType.TheVariants.{A, AC, AR, AV, C, CR, E, I, IR, MA, MAC, MAV, MC, MI, MPR, MS, MUI, PR, RC, RL, S, UI}
use Rattle.cvss_explain.specs.Lines.{metric_text}
use Rattle.cvss_explain.specs.Near.{IsNear, IsNearBy, IsNearOf}
use Rattle.cvss_explain.specs.Parts.{ways_text}
use Rattle.cvss_explain.specs.Steps.{AreSteps, IsNumber, IsScore, entry_member, ways_lines}
use Rattle.cvss_explain.specs.declared.object.Entry.{Entry}
use Rattle.cvss_explain.specs.declared.object.Entry.TheVariants.{Severity, Value}
use Rattle.cvss_explain.specs.declared.step.Amount.TheVariants.{Rated, Score}
use Rattle.cvss_explain.specs.declared.step.Quantity.TheVariants.{Iss, Impact, Exploitability, BeforeRounding, BaseScore, TemporalScore, Miss, ModifiedImpact, ModifiedExploitability, BeforeFirstRounding, FirstScore, EnvironmentalScore}
use Rattle.cvss_explain.specs.declared.step.Step.{Step}
use Rattle.cvss_explain.specs.declared.v3.steps.Steps.{Steps}
use Rattle.cvss_json.specs.Json.{Member, decimal_text, string_text}
use Rattle.cvss_metric.specs.v3.Table.{printed}
use Rattle.cvss_report.specs.Groups.{has_group}
use Rattle.cvss_report.specs.WordsV3.{words_of}
use Rattle.cvss_score.specs.declared.v3.weights.Weights.{Weights}
use Rattle.cvss_score.specs.v3.Scores as scores
use Rattle.cvss_score.specs.v3.Weighing.{weight_in}
use Rattle.cvss_vector.specs.declared.group.Group.TheVariants.{Temporal, Environmental}
use Rattle.cvss_vector.specs.declared.published.Bounds.TheVariants.{SinceV3}
use Rattle.cvss_vector.specs.declared.v3.vector.Vector.{Vector}
use Rattle.cvss_vector.specs.declared.vector.Cvss.{Cvss}
use Rattle.cvss_vector.specs.declared.vector.Cvss.TheVariants.{CvssV30}
use Rattle.cvss_vector.specs.v3.Vector.{v3}

-- the steps to the base score
abbrev pub base_steps : ℕ → Weights → List (Step → Type 0)
base_steps minor w =
    IsNumber Iss (IsNear (scores.iss w))
    ∷ IsNumber Impact (IsNearBy w.changed (scores.impact w))
    ∷ IsNumber Exploitability (IsNear (scores.exploitability w))
    ∷ IsNumber BeforeRounding (IsNearBy w.changed (scores.base_number w))
    ∷ IsScore BaseScore (Rated SinceV3) (scores.IsBaseScore minor w)
    ∷ []

-- so many tenths times E, RL and RC
abbrev pub times_temporal : Weights → (ℤ → Type 0) → ℤ → Type 0
times_temporal w IsTenths = IsNearOf IsTenths (λ tenths. scores.temporal_number tenths w)

-- the steps to the temporal score
abbrev pub temporal_steps : ℕ → Weights → List (Step → Type 0)
temporal_steps minor w =
    IsNumber BeforeRounding (times_temporal w (scores.IsBase minor w)) ∷ IsScore TemporalScore (Rated SinceV3) (scores.IsTemporalScore minor w) ∷ []

-- so many tenths are the inner rounding of the environmental score
abbrev pub IsFirst : ℕ → Weights → ℤ → Type 0
IsFirst minor w = scores.IsRounded minor (scores.environmental_number minor w)

-- the steps to the environmental score
abbrev pub environmental_steps : ℕ → Weights → List (Step → Type 0)
environmental_steps minor w =
    IsNumber Miss (IsNear (scores.miss w))
    ∷ IsNumber ModifiedImpact (IsNearBy w.modified_changed (scores.modified_impact minor w))
    ∷ IsNumber ModifiedExploitability (IsNear (scores.modified_exploitability w))
    ∷ IsNumber BeforeFirstRounding (IsNearBy w.modified_changed (scores.environmental_number minor w))
    ∷ IsScore FirstScore Score (IsInTenths (IsFirst minor w))
    ∷ IsNumber BeforeRounding (times_temporal w (IsFirst minor w))
    ∷ IsScore EnvironmentalScore (Rated SinceV3) (scores.IsEnvironmentalScore minor w)
    ∷ []

pub record AreStepsOf (minor : ℕ) (w : Weights) (steps : Steps) : Type 0 where
  pub base : AreSteps (base_steps minor w) steps.base
  pub temporal : AreSteps (temporal_steps minor w) steps.temporal
  pub environmental : AreSteps (environmental_steps minor w) steps.environmental

-- the members of the objects of steps, in the order of their names
abbrev pub base_entries : List Entry
base_entries = Value 2 ∷ Value 1 ∷ Value 0 ∷ Value 3 ∷ Value 4 ∷ Severity 4 ∷ []

abbrev pub temporal_entries : List Entry
temporal_entries = Value 0 ∷ Value 1 ∷ Severity 1 ∷ []

abbrev pub environmental_entries : List Entry
environmental_entries = Value 3 ∷ Value 4 ∷ Value 0 ∷ Value 2 ∷ Value 1 ∷ Value 5 ∷ Value 6 ∷ Severity 6 ∷ []

abbrev pub scope_letter : Bool → List ℕ
scope_letter false = codes "U"
scope_letter true = codes "C"

-- the scopes, as they count
abbrev pub scope_members : Weights → List Member
scope_members w =
    (codes "modifiedScope", string_text (scope_letter w.modified_changed)) ∷ (codes "scope", string_text (scope_letter w.changed)) ∷ []

-- the metrics, in the order of their names
abbrev pub by_name : List MetricType
by_name = A ∷ AC ∷ AR ∷ AV ∷ C ∷ CR ∷ E ∷ I ∷ IR ∷ MA ∷ MAC ∷ MAV ∷ MC ∷ MI ∷ MPR ∷ MS ∷ MUI ∷ PR ∷ RC ∷ RL ∷ S ∷ UI ∷ []

-- a weight of so many hundredths
abbrev pub hundredths_text : ℕ → List ℕ
hundredths_text weight = decimal_text (pos (weight * 100_000))

-- what each metric weighs; the scopes weigh nothing
abbrev pub weight_member : Weights → MetricType → Option Member
weight_member w kind = option_map (λ weight. (name_of kind, hundredths_text weight)) (weight_in w kind)

abbrev pub weights_members : Weights → List Member
weights_members w = filter_map (weight_member w) by_name

-- the text explains the score of so many tenths of a vector of this minor version with these weights, as an object
pub record IsExplanationText (line : Option ℕ) (cvss : Cvss) (minor : ℕ) (w : Weights) (tenths : ℕ) (text : List ℕ) : Type 0 where
  pub steps : Steps
  pub are : AreStepsOf minor w steps
  pub is : text ≡ ways_text line cvss tenths
      (filter_map (entry_member steps.base) base_entries)
      (filter_map (entry_member steps.temporal) temporal_entries)
      (filter_map (entry_member steps.environmental) environmental_entries)
      (scope_members w) (weights_members w)

-- what a metric weighs, for people
abbrev pub weight_text : Weights → MetricType → List ℕ
weight_text w kind = option_map_or hundredths_text (weight_in w kind) (codes "-")

-- the lines after the heading: the metrics, and the steps to each score whose metrics the vector has
abbrev pub lines_text : Vector → Weights → Steps → List ℕ
lines_text vector w steps =
    flat_map (metric_text v3 description_of words_of (weight_text w) vector) printed
    ++ ways_lines steps.base (has_group (CvssV30 vector) Temporal) steps.temporal (has_group (CvssV30 vector) Environmental) steps.environmental

-- the lines explain the scores of a vector with these weights
pub record AreLines (vector : Vector) (w : Weights) (text : List ℕ) : Type 0 where
  pub steps : Steps
  pub are : AreStepsOf vector.minor_version w steps
  pub is : text ≡ lines_text vector w steps
