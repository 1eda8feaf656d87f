mod Cuts
mod DeskLaws
mod NumberLaws
mod OneScript
mod ScriptLaws
mod StepLaws
