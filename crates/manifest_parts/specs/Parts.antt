-- What the small types of the code hold.
use Rattle.std.specs.Prelude.{map, string_bytes}
use Rattle.manifest_schema.specs.Kinds.{Inheritable, inherited, local}
use Rattle.manifest_schema.specs.Contents
use Rattle.manifest_parts.specs.declared.choices.Edition.{Edition}
use Rattle.manifest_parts.specs.declared.choices.Resolver.{Resolver}
use Rattle.manifest_parts.specs.declared.choices.LintLevel.{LintLevel}
use Rattle.manifest_parts.specs.declared.choices.MaintenanceStatus.{MaintenanceStatus}
use Rattle.manifest_parts.specs.declared.strip.StripSetting.{StripSetting}
use Rattle.manifest_parts.specs.declared.publish.StringOrBool.{StringOrBool}
use Rattle.manifest_parts.specs.declared.publish.Publish.{Publish}
use Rattle.manifest_parts.specs.declared.inherited.MaybeInherited.{MaybeInherited}

-- CHOICES
abbrev pub edition_content : Edition → Contents.Edition
edition_content Edition.E2015 = Contents.e2015
edition_content Edition.E2018 = Contents.e2018
edition_content Edition.E2021 = Contents.e2021
edition_content Edition.E2024 = Contents.e2024

abbrev pub resolver_content : Resolver → Contents.Resolver
resolver_content Resolver.V1 = Contents.v1
resolver_content Resolver.V2 = Contents.v2
resolver_content Resolver.V3 = Contents.v3

abbrev pub level_content : LintLevel → Contents.LintLevel
level_content LintLevel.Forbid = Contents.forbid
level_content LintLevel.Deny = Contents.deny
level_content LintLevel.Warn = Contents.warn
level_content LintLevel.Allow = Contents.allow

abbrev pub status_content : MaintenanceStatus → Contents.MaintenanceStatus
status_content MaintenanceStatus.None = Contents.no_status
status_content MaintenanceStatus.ActivelyDeveloped = Contents.actively_developed
status_content MaintenanceStatus.PassivelyMaintained = Contents.passively_maintained
status_content MaintenanceStatus.AsIs = Contents.as_is
status_content MaintenanceStatus.Experimental = Contents.experimental
status_content MaintenanceStatus.LookingForMaintainer = Contents.looking_for_maintainer
status_content MaintenanceStatus.Deprecated = Contents.deprecated

abbrev pub strip_content : StripSetting → Contents.StripSetting
strip_content StripSetting.None = Contents.strip_none
strip_content StripSetting.Debuginfo = Contents.strip_debuginfo
strip_content StripSetting.Symbols = Contents.strip_symbols

-- A TEXT OR A BOOLEAN, and where a package may be published
abbrev pub text_or_flag_content : StringOrBool → Contents.StringOrBool
text_or_flag_content (StringOrBool.String s) = Contents.a_text (string_bytes s)
text_or_flag_content (StringOrBool.Bool b) = Contents.a_flag b

abbrev pub publish_content : Publish → Contents.Publish
publish_content (Publish.Flag b) = Contents.publish_flag b
publish_content (Publish.Registry v) = Contents.registries (map string_bytes v.items)

-- WHAT MAY BE INHERITED FROM THE WORKSPACE
abbrev pub inh_content : {T A : Type 0} → (T → A) → MaybeInherited T → Inheritable A
inh_content f (MaybeInherited.Inherited w) = inherited
inh_content f (MaybeInherited.Local x) = local (f x)
