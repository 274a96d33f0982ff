-- The explanations of the scores of CVSS v4.0: specification, section 8.2. Members are in the order of their names.
use Rattle.cvss_base.specs.SeverityScale.{severity_of_score}
use Rattle.cvss_base.specs.V4Types.{description_of, name_of}
use Rattle.cvss_base.specs.Version.{held}
use Rattle.cvss_base.specs.declared.v4.MetricType.{MetricType}
use Rattle.cvss_base.specs.declared.v4.MetricType.TheVariants.{AC, AT, AV, PR, UI, VC, VI, VA, SC, SI, SA, E, CR, IR, AR}
use Rattle.cvss_explain.specs.Decimal.{nearest_to}
use Rattle.cvss_explain.specs.LettersV4.{effective_members}
use Rattle.cvss_explain.specs.Lines.{Joins, TitledFigure, metric_text, rated_text, rows_text}
use Rattle.cvss_explain.specs.Parts.{score_member, severity_member, vector_member, version_member, with_line}
use Rattle.cvss_json.specs.Json.{array_text, decimal_text, object_text, string_text, tenths_text}
use Rattle.cvss_metric.specs.v4.Table.{printed}
use Rattle.cvss_report.specs.WordsV4.{words_of}
use Rattle.cvss_score.specs.declared.v4.nomenclature.Nomenclature.{Nomenclature}
use Rattle.cvss_score.specs.declared.v4.nomenclature.Nomenclature.TheVariants.{CvssB, CvssBE, CvssBT, CvssBTE}
use Rattle.cvss_score.specs.declared.v4.scoring.classes.MacroVector.{MacroVector}
use Rattle.cvss_score.specs.declared.v4.scoring.explanation.Explanation.{Explanation}
use Rattle.cvss_score.specs.declared.v4.scoring.explanation.GroupExplanation.{GroupExplanation}
use Rattle.cvss_score.specs.declared.v4.scoring.explanation.GroupExplanations.{GroupExplanations}
use Rattle.cvss_score.specs.declared.v4.scoring.next.NextClass.{NextClass}
use Rattle.cvss_score.specs.v4.Explanation.{IsExplanation}
use Rattle.cvss_vector.specs.Answers.{score_of_tenths}
use Rattle.cvss_vector.specs.declared.v4.vector.Vector.{Vector}
use Rattle.cvss_vector.specs.declared.vector.Cvss.{Cvss}
use Rattle.cvss_vector.specs.v4.Merging.{effective_of}
use Rattle.cvss_vector.specs.v4.Nomenclature.{nomenclature_of, text_of as nomenclature_text}
use Rattle.cvss_vector.specs.v4.Parts.{IsScoreBy}
use Rattle.cvss_vector.specs.v4.Vector.{v4}
use Rattle.std.specs.Fmt.{decimal}
use Rattle.std.specs.Option.{option_map_or}
use Rattle.std.specs.Prelude.{◌≡◌, ℕ, ◌-◌, List, [], ◌∷◌, codes, flat_map, map, pos, Option, Some, None, ◌==◌, ◌&&◌, ◌||◌, Bool, true, false, not, if◌then◌else◌, ◌++◌, find, is_some, bytes_eq, unwrap_or}

-- the levels that make up a class
abbrev pub levels : MacroVector → List ℕ
levels m = m.eq1 ∷ m.eq2 ∷ m.eq3 ∷ m.eq4 ∷ m.eq5 ∷ m.eq6 ∷ []

abbrev pub digits : List ℕ → List ℕ
digits levels = flat_map decimal levels

-- the six digits of a class
abbrev pub class_text : MacroVector → List ℕ
class_text m = digits (levels m)

-- a group of metrics: its name, its level or both levels, and what it contributes
abbrev pub Group : Type 0
Group = List ℕ × List ℕ × GroupExplanation

-- the five groups of a class
abbrev pub named : MacroVector → GroupExplanations → List Group
named class groups =
    (codes "EQ1", class.eq1 ∷ [], groups.eq1)
    ∷ (codes "EQ2", class.eq2 ∷ [], groups.eq2)
    ∷ (codes "EQ3+EQ6", class.eq3 ∷ class.eq6 ∷ [], groups.eq3_eq6)
    ∷ (codes "EQ4", class.eq4 ∷ [], groups.eq4)
    ∷ (codes "EQ5", class.eq5 ∷ [], groups.eq5)
    ∷ []

-- the gap from the value to that of the next lower class, this class, its value, and the group's share of the mean, by the
-- gap and the distance; null where there is none
abbrev pub Next : Type 0
Next = List ℕ × List ℕ × List ℕ × List ℕ

abbrev pub next_of : ℕ → Option NextClass → ℕ → Next
next_of value None share = (codes "null", codes "null", codes "null", codes "null")
next_of value (Some next) share =
    (tenths_text (value - next.value), string_text (class_text next.class), tenths_text next.value, decimal_text (pos (nearest_to share 8400)))

-- a group, and these of its next lower class
abbrev pub members_text : Group → Next → List ℕ
members_text (name, level, group) (gap, next, next_value, share) =
    object_text (
    (codes "class", string_text (digits level))
    ∷ (codes "depth", decimal group.depth)
    ∷ (codes "distance", decimal group.distance)
    ∷ (codes "gap", gap)
    ∷ (codes "group", string_text name)
    ∷ (codes "next", next)
    ∷ (codes "nextValue", next_value)
    ∷ (codes "share", share)
    ∷ []
    )

-- what a group contributes to the score below the value
abbrev pub group_text : ℕ → Group → List ℕ
group_text value (name, level, group) = members_text (name, level, group) (next_of value group.next group.taken)

-- the five groups; none without impact
abbrev pub groups_text : MacroVector → ℕ → Option GroupExplanations → List ℕ
groups_text class value None = array_text []
groups_text class value (Some groups) = array_text (map (group_text value) (named class groups))

-- the explanation of a score of so many tenths, with the class, the mean of what the groups take from its value, and the
-- number that is left
abbrev pub explanation_text : Option ℕ → Cvss → ℕ → Nomenclature → Explanation → List ℕ
explanation_text line cvss tenths nomenclature explanation =
    object_text (
    (codes "effective", object_text (effective_members explanation.effective))
    ∷ (codes "groups", groups_text explanation.class explanation.value explanation.groups)
    ∷ with_line line (
    (codes "macroVector", string_text (class_text explanation.class))
    ∷ (codes "mean", decimal_text (pos (nearest_to explanation.mean 504_000)))
    ∷ (codes "nomenclature", string_text (nomenclature_text nomenclature))
    ∷ (codes "number", decimal_text (pos (nearest_to explanation.number 504_000)))
    ∷ score_member tenths
    ∷ severity_member cvss tenths
    ∷ (codes "value", tenths_text explanation.value)
    ∷ vector_member cvss
    ∷ version_member cvss
    ∷ [])
    )

-- the text explains the vector's score, of so many tenths
pub record IsExplanationText (line : Option ℕ) (cvss : Cvss) (vector : Vector) (tenths : ℕ) (text : List ℕ) : Type 0 where
  pub explanation : Explanation
  pub is_explanation : IsExplanation (effective_of vector) explanation
  pub is : text ≡ explanation_text line cvss tenths (nomenclature_of vector) explanation

-- the levels that a metric counts in that replaces none, as digits of the MacroVector; no supplemental metric counts
abbrev pub own_levels : MacroVector → MetricType → List ℕ
own_levels m AV = codes "EQ1:" ++ decimal m.eq1
own_levels m PR = codes "EQ1:" ++ decimal m.eq1
own_levels m UI = codes "EQ1:" ++ decimal m.eq1
own_levels m AC = codes "EQ2:" ++ decimal m.eq2
own_levels m AT = codes "EQ2:" ++ decimal m.eq2
own_levels m VC = codes "EQ3:" ++ decimal m.eq3 ++ codes " EQ6:" ++ decimal m.eq6
own_levels m VI = codes "EQ3:" ++ decimal m.eq3 ++ codes " EQ6:" ++ decimal m.eq6
own_levels m VA = codes "EQ3:" ++ decimal m.eq3 ++ codes " EQ6:" ++ decimal m.eq6
own_levels m SC = codes "EQ4:" ++ decimal m.eq4
own_levels m SI = codes "EQ4:" ++ decimal m.eq4
own_levels m SA = codes "EQ4:" ++ decimal m.eq4
own_levels m E = codes "EQ5:" ++ decimal m.eq5
own_levels m CR = codes "EQ6:" ++ decimal m.eq6
own_levels m IR = codes "EQ6:" ++ decimal m.eq6
own_levels m AR = codes "EQ6:" ++ decimal m.eq6
own_levels m _ = codes "-"

-- the name of a modified metric is an M and that of the base metric that it replaces where it is defined
abbrev pub is_modified_of : MetricType → MetricType → Bool
is_modified_of modified base = bytes_eq (name_of modified) (codes "M" ++ name_of base)

-- the base metric that a modified metric replaces
abbrev pub replaced_by : MetricType → Option MetricType
replaced_by kind = find (is_modified_of kind) printed

-- the modified metric that may replace a base metric
abbrev pub modified_of : MetricType → Option MetricType
modified_of kind = find (λ modified. is_modified_of modified kind) printed

-- the levels that a metric counts in: those of the metric that it replaces, or its own
abbrev pub levels_text : MacroVector → MetricType → List ℕ
levels_text m kind = own_levels m (unwrap_or (replaced_by kind) kind)

-- the vector has a value for the metric other than Not Defined
abbrev pub is_defined : Vector → MetricType → Bool
is_defined v kind = option_map_or (λ spelling. not (bytes_eq spelling (codes "X"))) (held v4 v kind) false

-- the vector's value for the metric counts: for a base metric if no modified metric replaces it, for a modified metric if it is defined
abbrev pub value_counts : Vector → MetricType → Bool
value_counts v kind =
    option_map_or (λ modified. not (is_defined v modified)) (modified_of kind) (not (is_some (replaced_by kind)) || is_defined v kind)

-- the effect of a metric: the levels that it counts in
abbrev pub effect_text : Vector → MacroVector → MetricType → List ℕ
effect_text v m kind = if value_counts v kind then levels_text m kind else codes "-"

-- the gap to the value of the next lower class, and the share of it that is subtracted
abbrev pub next_text : ℕ → Option NextClass → ℕ → List ℕ
next_text value None share = codes ", no lower level"
next_text value (Some next) share =
    codes ", gap " ++ tenths_text (value - next.value)
    ++ codes " to " ++ class_text next.class
    ++ codes ", share " ++ decimal_text (pos (nearest_to share 8400))

-- what a group of metrics takes from the value
abbrev pub contribution_text : ℕ → GroupExplanation → List ℕ
contribution_text value group =
    codes "distance " ++ decimal group.distance ++ codes " of " ++ decimal group.depth ++ next_text value group.next group.taken

abbrev pub group_row : ℕ → Group → TitledFigure
group_row value (name, level, group) = (name ++ codes " level " ++ digits level, contribution_text value group)

-- so many 504000ths of a point
abbrev pub fraction_row : List ℕ → ℕ → TitledFigure
fraction_row title count = (title, decimal_text (pos (nearest_to count 504_000)))

-- the five groups and the mean of what they take; without impact the score is 0
abbrev pub group_rows : Explanation → Option GroupExplanations → List TitledFigure
group_rows explanation None = (codes "No impact", tenths_text 0) ∷ []
group_rows explanation (Some groups) =
    map (group_row explanation.value) (named explanation.class groups)
    ++ fraction_row (codes "Mean of the shares") explanation.mean
    ∷ []

-- the row of a score by a nomenclature
abbrev pub score_row : Nomenclature → ℕ → TitledFigure
score_row nomenclature tenths =
    (nomenclature_text nomenclature ++ codes " score", rated_text tenths (severity_of_score (score_of_tenths tenths)))

-- the way from the value of the class to the score
abbrev pub numbers_rows : Vector → Explanation → ℕ → List TitledFigure
numbers_rows v explanation tenths =
    (codes "MacroVector " ++ class_text explanation.class, tenths_text explanation.value)
    ∷ group_rows explanation explanation.groups
    ++ fraction_row (codes "Before rounding") explanation.number
    ∷ score_row (nomenclature_of v) tenths
    ∷ []

-- a score of the first nomenclature counts some of the groups that one of the second counts, and not all
abbrev pub counts_fewer : Nomenclature → Nomenclature → Bool
counts_fewer CvssB CvssB = false
counts_fewer CvssB _ = true
counts_fewer CvssBT CvssBTE = true
counts_fewer CvssBE CvssBTE = true
counts_fewer _ _ = false

-- the text is the line of a score of fewer groups, if it differs from the vector's own of so many tenths
pub record IsPart (vector : Vector) (tenths : ℕ) (nomenclature : Nomenclature) (text : List ℕ) : Type 0 where
  pub by : ℕ
  pub scored : IsScoreBy nomenclature vector (score_of_tenths by)
  pub is : text
      ≡ (if counts_fewer nomenclature (nomenclature_of vector) && not (by == tenths) then rows_text (score_row nomenclature by ∷ []) else [])

-- the lines say the scores of fewer groups of metrics, as far as they differ from the vector's own of so many tenths
abbrev pub ArePartLines : Vector → ℕ → List ℕ → Type 0
ArePartLines vector tenths = Joins (IsPart vector tenths) (CvssB ∷ CvssBT ∷ CvssBE ∷ [])

-- the lines explain the vector's score of so many tenths
pub record AreLines (vector : Vector) (tenths : ℕ) (text : List ℕ) : Type 0 where
  pub explanation : Explanation
  pub is_explanation : IsExplanation (effective_of vector) explanation
  pub parts : List ℕ
  pub are_parts : ArePartLines vector tenths parts
  pub is : text
      ≡ flat_map (metric_text v4 description_of words_of (effect_text vector explanation.class) vector) printed
      ++ rows_text (numbers_rows vector explanation tenths)
      ++ parts
