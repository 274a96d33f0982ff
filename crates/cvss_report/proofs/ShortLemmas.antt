-- No component is longer than nine bytes, so that each takes at most ten with its slash.
use Rattle.std.proofs.Common.{◌≡◌, ◌≤◌, ◌*◌, List, [], ◌∷◌, length, Option, Some, None, unwrap_or, true, arith, rules, length-append, ap}
use Rattle.std.specs.Option.{option_map}
use Rattle.std.specs.Prelude.{leb}
use Rattle.std.proofs.lemmas.Bool.Decides.{nat_tests}
use Rattle.std.proofs.lemmas.List.{length-drop}
use Rattle.cvss_base.specs.V4Types.{most_metrics}
use Rattle.cvss_text.proofs.PrintLemmas.{joined_after_first}
use Rattle.cvss_base.specs.declared.v2.MetricType.TheVariants as metric_v2
use Rattle.cvss_base.specs.declared.v3.MetricType.TheVariants as metric_v3
use Rattle.cvss_base.specs.declared.v4.MetricType.TheVariants as metric_v4
use Rattle.cvss_vector.specs.v2.Vector.{v2}
use Rattle.cvss_vector.specs.declared.v2.vector.Vector.{Vector}
use Rattle.cvss_vector.specs.v3.Vector.{v3}
use Rattle.cvss_vector.specs.v4.Vector.{v4}
use Rattle.cvss_base.specs.Text.{component}
use Rattle.cvss_base.specs.Version.{Version, canonical_text}
use Rattle.cvss_text.specs.private.Printing.{with_slash, text_with_slash, texts_with_slash}

-- no component is longer than nine bytes
abbrev AreShort : {V K : Type 0} → Version V K → Type 0
AreShort {K = K} version = (kind : K) (value : version.Value kind) → leb (length (component (version.name kind) (version.spelling kind value))) 9 ≡ true

pub short_v2 : AreShort v2
short_v2 metric_v2.AV = search rules
short_v2 _ = search rules

pub short_v3 : AreShort v3
short_v3 metric_v3.AV = search rules
short_v3 _ = search rules

pub short_v4 : AreShort v4
short_v4 metric_v4.AV = search rules
short_v4 _ = search rules

module _ {V K : Type 0} (version : Version V K) (short : AreShort version) where
  text-short : (kind : K) (value : Option (version.Value kind)) → length (unwrap_or (with_slash (option_map (component (version.name kind)) (option_map (version.spelling kind) value))) []) ≤ 10
  text-short kind None = omega arith
  text-short kind (Some value) = grind (arith, nat_tests, short kind value)

  texts-short : (v : V) (kinds : List K) → length (texts_with_slash version v kinds) ≤ 10 * length kinds
  texts-short v [] = omega arith
  texts-short v (kind ∷ kinds) =
      omega (arith, text-short kind (version.value_of v kind), texts-short v kinds, length-append (text_with_slash version v kind) (texts_with_slash version v kinds))

  pub fits : (v : V) → length version.printed ≤ most_metrics → length (texts_with_slash version v version.printed) ≤ 10 * most_metrics
  fits v few = omega (arith, few, texts-short v version.printed)

pub text_short : (v : Vector) → length (canonical_text v2 v) ≤ 10 * most_metrics
text_short v =
    let kinds = v2.printed in
    omega (arith, ap length (joined_after_first v2 v kinds), length-drop 1 (texts_with_slash v2 v kinds), fits v2 short_v2 v (omega arith))
