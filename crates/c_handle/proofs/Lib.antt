pub mod PartsSteps
