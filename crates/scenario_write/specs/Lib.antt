pub mod ScenarioText
